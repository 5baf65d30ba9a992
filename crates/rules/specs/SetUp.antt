-- Set-up: which numbers it takes, who is to hold the keys, and the table that it leaves (rules S1 to S3).
use Rattle.std.specs.Prelude.{ℕ, zero, suc, ◌+◌, ◌*◌, ◌^◌, Bool, List, [], ◌∷◌, ◌++◌, eqb, leb, ltb, drop, replicate, if◌then◌else◌}
use Rattle.rules.specs.Choice.{◌and◌, ◌or◌}
use Rattle.rules.specs.Table.{Table, size, this_version, most_of, most, words_for, in_mask}
use Rattle.rules.specs.Terms.{secret_key, public_key, secret_key_length, public_key_length, new_entry, create}
use Rattle.rules.specs.Handles.{grant}

-- ---- S1: the ranges
unfoldable pub participants_fit : ℕ → Bool
participants_fit n = leb 2 n and leb n (most_of this_version)

unfoldable pub mask_fits : ℕ → ℕ → Bool
mask_fits n m = ltb m (2 ^ n)

unfoldable pub capacity_fits : ℕ → Bool
capacity_fits c = leb 16 c and leb c 512

unfoldable pub set_up_fits : Table → ℕ → ℕ → ℕ → Bool
set_up_fits t n m c = participants_fit n and mask_fits n m and capacity_fits c and leb (words_for this_version c) (size t)

-- ---- S2: who is to hold a key, by the mask of the honest
unfoldable pub holds_secret_key : ℕ → ℕ → ℕ → Bool
holds_secret_key m p k = if in_mask m p then eqb k p else eqb k 0

unfoldable pub holds_public_key : ℕ → ℕ → Bool
holds_public_key m k = eqb k 0 or in_mask m k

-- ---- S3: the table that it leaves
-- S3: the head, with no entry used and every next handle 1
unfoldable pub new_head : ℕ → ℕ → ℕ → List ℕ
new_head n m c = this_version ∷ n ∷ m ∷ c ∷ 0 ∷ (replicate (1 + most_of this_version) 1 ++ (0 ∷ 0 ∷ []))

-- S3: that head, zeros up to the capacity, and the words past them as they were
unfoldable pub empty_table : Table → ℕ → ℕ → ℕ → Table
empty_table t n m c =
    new_head n m c ++ (replicate ((8 + most_of this_version) * c) 0 ++ drop (words_for this_version c) t)

-- S3: entry e is granted to those of knowers 0 to k that the test names
unfoldable pub grant_named : Table → (ℕ → Bool) → ℕ → ℕ → Table
grant_named t named e zero = if named 0 then grant t 0 e else t
grant_named t named e (suc k) =
    let s = grant_named t named e k in
    if named (suc k) then grant s (suc k) e else s

-- S3: participant p's secret key, then its public key, each with its grants
unfoldable pub add_keys : Table → ℕ → ℕ → Table
add_keys t m p =
    let a = create t (secret_key p) secret_key_length in
    let b = grant_named a (holds_secret_key m p) (new_entry t) (most a) in
    let c = create b (public_key p) public_key_length in
    grant_named c (holds_public_key m) (new_entry b) (most c)

-- S3: the keys of participants 1 to p
unfoldable pub add_all_keys : Table → ℕ → ℕ → Table
add_all_keys t m zero = t
add_all_keys t m (suc p) = add_keys (add_all_keys t m p) m (suc p)

unfoldable pub set_up_table : Table → ℕ → ℕ → ℕ → Table
set_up_table t n m c = add_all_keys (empty_table t n m c) m n
