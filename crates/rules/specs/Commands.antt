-- The adversary's commands: handles are knower 0's, and what they give is granted to knower 0 (rules C1 to C7).
use Rattle.std.specs.Prelude.{ℕ, ◌+◌, Bool, not, List, [], ◌∷◌, map, eqb, leb, take, drop, if◌then◌else◌}
use Rattle.rules.specs.Choice.{◌and◌, ◌or◌, every, is_zero}
use Rattle.rules.specs.Table.{Table, type_at, count_at, argument, length_at, handle}
use Rattle.rules.specs.Terms.{Term, datum, nonce, list, ciphertext, is_datum, is_list, is_ciphertext, is_secret_key, is_public_key, length_of, new_entry, create, find_datum, find_list}
use Rattle.rules.specs.Handles.{entry_of, holds_handle}
use Rattle.rules.specs.Outcome.{Outcome, gives, gives_handle, parsed, need, need_room}

-- a new entry
unfoldable pub give_new : Table → Term → Outcome
give_new t x =
    let l = length_of t x in
    need_room t (l ∷ []) (gives_handle (create t x l) (new_entry t))

-- the entry that was found, or a new one where none was (0)
unfoldable pub give_found_or_new : Table → ℕ → Term → Outcome
give_found_or_new t found x = if eqb found 0 then give_new t x else gives_handle t found

-- C1: store d
unfoldable pub store : Table → ℕ → Outcome
store t d = give_found_or_new t (find_datum t d) (datum d)

-- C2: nonce
unfoldable pub new_nonce : Table → Outcome
new_nonce t = give_new t (nonce 0 0)

-- ---- C3: list
-- C3: a list that can be asked for: 1 to 4 handles, and zeros after them
unfoldable pub list_is_asked : ℕ → List ℕ → Bool
list_is_asked k hs = leb 1 k and leb k 4 and every is_zero (drop k hs)

unfoldable pub may_be_listed : Table → ℕ → Bool
may_be_listed t e = not (is_secret_key t e)

unfoldable pub make_list_of : Table → List ℕ → Outcome
make_list_of t es = need (every (may_be_listed t) es) 6 t (give_found_or_new t (find_list t es) (list es))

unfoldable pub make_list : Table → ℕ → List ℕ → Outcome
make_list t k hs =
    need (list_is_asked k hs) 4 t
    (need (every (holds_handle t 0) (take k hs)) 5 t
    (make_list_of t (map (entry_of t 0) (take k hs))))

-- ---- C4: project
unfoldable pub is_place : ℕ → Bool
is_place i = leb 1 i and leb i 4

unfoldable pub project_of : Table → ℕ → ℕ → Outcome
project_of t e i =
    need (is_list t e) 6 t
    (need (leb i (count_at t e)) 7 t
    (gives_handle t (argument t e i)))

unfoldable pub project : Table → ℕ → ℕ → Outcome
project t h i =
    need (is_place i) 4 t
    (need (holds_handle t 0 h) 5 t
    (project_of t (entry_of t 0 h) i))

-- ---- C5: encrypt
unfoldable pub encrypt_of : Table → ℕ → ℕ → Outcome
encrypt_of t k l = need (is_public_key t k and is_list t l) 6 t (give_new t (ciphertext k l))

unfoldable pub encrypt : Table → ℕ → ℕ → Outcome
encrypt t k l =
    need (holds_handle t 0 k and holds_handle t 0 l) 5 t
    (encrypt_of t (entry_of t 0 k) (entry_of t 0 l))

-- ---- C6: decrypt
unfoldable pub decrypt_of : Table → ℕ → ℕ → Outcome
decrypt_of t k c =
    need (is_secret_key t k and is_ciphertext t c) 6 t
    (need (eqb (argument t c 1) (k + 1)) 8 t
    (gives_handle t (argument t c 2)))

unfoldable pub decrypt : Table → ℕ → ℕ → Outcome
decrypt t k c =
    need (holds_handle t 0 k and holds_handle t 0 c) 5 t
    (decrypt_of t (entry_of t 0 k) (entry_of t 0 c))

-- ---- C7: parse
-- C7: the value: a datum's, a list's count, knower 0's handle on a ciphertext's key, a key's participant, and 0 for a nonce
unfoldable pub value_of : Table → ℕ → ℕ
value_of t e =
    if is_list t e then count_at t e else
    if is_ciphertext t e then handle t 0 (argument t e 1) else
    if is_datum t e or is_secret_key t e or is_public_key t e then argument t e 1 else 0

unfoldable pub parse_of : Table → ℕ → Outcome
parse_of t e = gives (parsed (type_at t e) (value_of t e) (length_at t e)) t

unfoldable pub parse : Table → ℕ → Outcome
parse t h = need (holds_handle t 0 h) 5 t (parse_of t (entry_of t 0 h))
