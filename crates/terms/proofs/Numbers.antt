-- The numbers of the entries that the code hands over as an array: how many, each of them, one replaced, the first n. Assumes nothing.
use Prim.Native.Nat.{ℕ, zero, suc}
use mathlib.Core.Path.{◌≡◌, refl, ap}
use mathlib.Core.List.{List, [], ◌∷◌}
use lib.ListN.{length, get_or, set, take}
use Rattle.rules.specs.declared.Entry.{Entry}
use Rattle.terms.specs.Elements.{numbers}

-- the number of entry i of them
abbrev pub number_at : List Entry → ℕ → ℕ
number_at es i = (get_or es i (record { 0 = 0 })).0

pub numbers_length : (es : List Entry) → length (numbers es) ≡ length es
numbers_length [] = refl
numbers_length (e ∷ es) = ap suc (numbers_length es)

-- for any entry that stands for those past the end
pub number_at_or : (es : List Entry) (i : ℕ) (d : Entry) → get_or (numbers es) i d.0 ≡ (get_or es i d).0
number_at_or [] i d = refl
number_at_or (e ∷ es) zero d = refl
number_at_or (e ∷ es) (suc i) d = number_at_or es i d

pub number_at_lem : (es : List Entry) (i : ℕ) → get_or (numbers es) i 0 ≡ number_at es i
number_at_lem es i = number_at_or es i (record { 0 = 0 })

pub numbers_set : (es : List Entry) (i : ℕ) (e : Entry) → numbers (set es i e) ≡ set (numbers es) i e.0
numbers_set [] i e = refl
numbers_set (x ∷ es) zero e = refl
numbers_set (x ∷ es) (suc i) e = ap (λ (l : List ℕ). x.0 ∷ l) (numbers_set es i e)

pub numbers_take : (n : ℕ) (es : List Entry) → numbers (take n es) ≡ take n (numbers es)
numbers_take zero es = refl
numbers_take (suc n) [] = refl
numbers_take (suc n) (e ∷ es) = ap (λ (l : List ℕ). e.0 ∷ l) (numbers_take n es)
