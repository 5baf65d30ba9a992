-- What is known, as the numbers of a slice of entries: one more grant, and one slice granted after another. Assumes nothing.
use Prim.Native.Nat.{ℕ, zero, suc, ◌+◌, ◌≤◌, ◌<◌, min}
use native.Mathlib.Numerals.{add-one}
use native.Mathlib.Omega.{arith}
use mathlib.Core.Path.{◌≡◌, refl, sym, ap, ◌∙◌}
use mathlib.Core.List.{List, [], ◌∷◌, ◌++◌}
use lib.ListN.{length, take, get_or}
use lib.Seq.{take-suc}
use Rattle.std.proofs.lemmas.List.{take_all}
use Rattle.rules.specs.Table.{Table, count_at, arguments}
use Rattle.rules.specs.Terms.{elements}
use Rattle.rules.specs.Handles.{grant, grant_each}
use Rattle.rules.specs.Steps.{sealed_in, plain_in, opened}
use Rattle.rules.specs.declared.Entry.{Entry}
use Rattle.terms.specs.Elements.{numbers}
use Rattle.terms.proofs.Numbers.{numbers_length, number_at_or, numbers_take}

-- ---- one slice after another
pub grant_append : (t : Table) (p : ℕ) (xs ys : List ℕ) → grant_each t p (xs ++ ys) ≡ grant_each (grant_each t p xs) p ys
unfolding grant_each
grant_append t p [] ys = refl
grant_append t p (x ∷ xs) ys = grant_append (grant t p x) p xs ys

-- ---- one grant more
pub grants_none : (t : Table) (p : ℕ) (es : List Entry) → t ≡ grant_each t p (take 0 (numbers es))
unfolding grant_each
grants_none t p es = refl

pub grants_more : (t : Table) (p : ℕ) (es : List Entry) (i : ℕ) (d : Entry) → i < length es
    → grant_each t p (take (i + 1) (numbers es)) ≡ grant (grant_each t p (take i (numbers es))) p (get_or es i d).0
unfolding grant_each
grants_more t p es i d h =
    let l : i < length (numbers es) = rw (numbers_length es) h in
    rw (add-one, take-suc (numbers es) i d.0 l, number_at_or es i d) (grant_append t p (take i (numbers es)) ((get_or es i d).0 ∷ []))

pub grants_all : (t : Table) (p : ℕ) (es : List Entry) (i : ℕ) → length es ≤ i
    → grant_each t p (take i (numbers es)) ≡ grant_each t p (numbers es)
grants_all t p es i h = let l : length (numbers es) ≤ i = rw (numbers_length es) h in
    rw (take_all i (numbers es) l) refl

-- ---- what is known of a list that was opened
-- so many elements as the list has, and three at most
first_three : (n k a b c d : ℕ) → k ≡ min n 3 → take k (take 3 (a ∷ b ∷ c ∷ d ∷ [])) ≡ take 3 (take n (a ∷ b ∷ c ∷ d ∷ []))
first_three zero k a b c d h = let is : k ≡ 0 = omega arith in rw is refl
first_three (suc zero) k a b c d h = let is : k ≡ 1 = omega arith in rw is refl
first_three (suc (suc zero)) k a b c d h = let is : k ≡ 2 = omega arith in rw is refl
first_three (suc (suc (suc n))) k a b c d h = let is : k ≡ 3 = omega arith in rw is refl

pub opened_known : (t : Table) (l n k : ℕ) (all : List Entry) (d : Entry)
    → numbers all ≡ l ∷ sealed_in t l ∷ plain_in t l ∷ take 3 (arguments t (plain_in t l)) → n ≡ count_at t (get_or all 2 d).0 → k ≡ min n 3
    → numbers (take (3 + k) all) ≡ opened t l
unfolding opened elements arguments
opened_known t l n k all d a b e =
    let plain : (get_or all 2 d).0 ≡ plain_in t l = sym (number_at_or all 2 d) ∙ ap (λ (ns : List ℕ). get_or ns 2 d.0) a in
    let many : k ≡ min (count_at t (plain_in t l)) 3 = rw (← plain, ← b) e in
    let after : 3 + k ≡ suc (suc (suc k)) = omega arith in
    rw (numbers_take, a, after) (ap (λ (ns : List ℕ). l ∷ sealed_in t l ∷ plain_in t l ∷ ns) (first_three (count_at t (plain_in t l)) k _ _ _ _ many))
