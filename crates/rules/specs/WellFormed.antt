-- When a table is well formed, clause by clause (rules W1 to W11).
use Rattle.std.specs.Prelude.{ℕ, ◌+◌, ◌*◌, ◌%◌, Bool, not, eqb, leb, ltb, drop, if◌then◌else◌}
use Rattle.rules.specs.Choice.{◌and◌, ◌or◌, ◌implies◌, agree, all, every, is_zero}
use Rattle.rules.specs.Table.{Table, size, row_width, words_for, this_version, version, participants, mask, capacity, used, next_handle, spares_fit, type_at, count_at, argument, arguments, length_at, handle, honest, every_knower}
use Rattle.rules.specs.Terms.{data_type, ciphertext_type, nonce_type, is_nonce, is_list, is_ciphertext, is_secret_key, is_public_key, elements, term_at, longest, length_of, secret_key_of, public_key_of}
use Rattle.rules.specs.Handles.{holds, held}
use Rattle.rules.specs.SetUp.{participants_fit, mask_fits, capacity_fits, holds_secret_key, holds_public_key}

-- W1: the run has the head, and a row for each entry up to its capacity
unfoldable pub run_is_long : Table → Bool
run_is_long t = leb (row_width t) (size t) and leb (words_for (version t) (capacity t)) (size t)

-- W2: each field of the head is in range
unfoldable pub head_fits : Table → Bool
head_fits t =
    eqb (version t) this_version and participants_fit (participants t) and mask_fits (participants t) (mask t)
    and capacity_fits (capacity t) and spares_fit t

-- W3: the keys are used, and no more entries than the capacity
unfoldable pub used_fits : Table → Bool
used_fits t = leb (2 * participants t) (used t) and leb (used t) (capacity t)

-- ---- W4: the keys stand first, held by just those that set-up names
unfoldable pub held_as_named : Table → (ℕ → Bool) → ℕ → ℕ → Bool
held_as_named t named e k = agree (holds t k e) (named k)

unfoldable pub is_secret_key_of : Table → ℕ → ℕ → Bool
is_secret_key_of t p e =
    is_secret_key t e and eqb (argument t e 1) p and every_knower t (held_as_named t (holds_secret_key (mask t) p) e)

unfoldable pub is_public_key_of : Table → ℕ → ℕ → Bool
is_public_key_of t p e =
    is_public_key t e and eqb (argument t e 1) p and every_knower t (held_as_named t (holds_public_key (mask t)) e)

unfoldable pub keys_fit : Table → ℕ → Bool
keys_fit t p = is_secret_key_of t p (secret_key_of p) and is_public_key_of t p (public_key_of p)

-- ---- each used entry
-- W5: the types that an entry after the keys may have
unfoldable pub is_later_type : ℕ → Bool
is_later_type y = leb data_type y and leb y ciphertext_type

unfoldable pub type_fits : Table → ℕ → Bool
type_fits t e = leb e (2 * participants t) or is_later_type (type_at t e)

-- W6: the count of a type whose count is fixed
unfoldable pub count_of : ℕ → ℕ
count_of y = if eqb y nonce_type or eqb y ciphertext_type then 2 else 1

unfoldable pub count_fits : Table → ℕ → Bool
count_fits t e =
    if is_list t e then leb 1 (count_at t e) and leb (count_at t e) 4 else eqb (count_at t e) (count_of (type_at t e))

-- W7: the arguments past the count are zero
unfoldable pub unused_are_zero : Table → ℕ → Bool
unused_are_zero t e = every is_zero (drop (count_at t e) (arguments t e))

-- W8: a nonce's owner and partner are at most n
unfoldable pub nonce_fits : Table → ℕ → Bool
nonce_fits t e = is_nonce t e implies leb (argument t e 1) (participants t) and leb (argument t e 2) (participants t)

-- W9: x stands before e
unfoldable pub is_earlier : ℕ → ℕ → Bool
is_earlier e x = leb 1 x and ltb x e

-- W9: a list's elements are earlier entries and no secret keys
unfoldable pub may_be_element : Table → ℕ → ℕ → Bool
may_be_element t e x = is_earlier e x and not (is_secret_key t x)

unfoldable pub list_fits : Table → ℕ → Bool
list_fits t e = is_list t e implies every (may_be_element t e) (elements t e)

-- W9: a ciphertext names the entry of a public key and an earlier list
unfoldable pub is_key_place : Table → ℕ → Bool
is_key_place t x = leb 1 x and leb x (2 * participants t) and eqb (x % 2) 0

unfoldable pub ciphertext_fits : Table → ℕ → Bool
ciphertext_fits t e =
    is_ciphertext t e implies
    is_key_place t (argument t e 1) and is_earlier e (argument t e 2) and is_list t (argument t e 2)

-- W10: the length is the one that the term has, and not too long
unfoldable pub length_fits : Table → ℕ → Bool
length_fits t e = eqb (length_at t e) (length_of t (term_at t e)) and leb (length_at t e) longest

unfoldable pub entry_fits : Table → ℕ → Bool
entry_fits t e =
    type_fits t e and count_fits t e and unused_are_zero t e and nonce_fits t e and list_fits t e and ciphertext_fits t e
    and length_fits t e

-- ---- W11: each knower's handles
-- W11: knower 0 and the honest may hold entries
unfoldable pub may_hold : Table → ℕ → Bool
may_hold t k = eqb k 0 or honest t k

unfoldable pub handle_is_below : Table → ℕ → ℕ → Bool
handle_is_below t k e = ltb (handle t k e) (next_handle t k)

unfoldable pub handles_fit : Table → ℕ → Bool
handles_fit t k =
    (may_hold t k or eqb (held t k) 0) and eqb (next_handle t k) (1 + held t k) and all (handle_is_below t k) (used t)

-- ---- the whole
unfoldable pub well_formed : Table → Bool
well_formed t =
    run_is_long t and head_fits t and used_fits t and all (keys_fit t) (participants t) and all (entry_fits t) (used t)
    and every_knower t (handles_fit t)
