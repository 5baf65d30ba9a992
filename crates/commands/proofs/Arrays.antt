-- Tests and sums over the first numbers of an array, one further; and the first of four handles put through a function. Assumes nothing.
use Rattle.std.specs.List.{list_all, sum_by}
use Rattle.std.proofs.lemmas.List.Sums.{sum_by-cons}
use Rattle.std.proofs.lemmas.List.{get_or-take}
use Prim.Native.Nat.{ℕ, zero, suc, ◌+◌, ◌*◌, ◌≤◌, ◌<◌}
use native.Mathlib.Numerals.{add-one}
use native.Mathlib.Omega.{arith}
use mathlib.Core.Path.{◌≡◌, refl, sym, ap, ◌∙◌}
use mathlib.Core.Bool.{Bool, true, false, ◌&&◌}
use mathlib.Core.List.{List, [], ◌∷◌, ◌++◌, map}
use lib.ListN.{length, get_or, set, take, replicate}
use Rattle.rules.specs.Choice.{◌and◌, every, sum_of}
use Rattle.rules.specs.declared.Entry.{Entry}
use Rattle.rules.specs.declared.Handle.{Handle}
use Rattle.terms.proofs.Numbers.{numbers_take}
use Rattle.terms.specs.Elements.{numbers}
use Rattle.rules.proofs.Logic.{and_left, and_right, both, never, fails, every_at, mem_take}
use Rattle.beside.specs.Beside.{numbers_beside}
use Rattle.beside.proofs.Asked.{number_beside}

-- ---- over the first i + 1 numbers
pub every_none : (f : ℕ → Bool) (xs : List ℕ) → every f (take 0 xs) ≡ true
unfolding every
every_none f xs = refl

every_suc : (f : ℕ → Bool) (i : ℕ) (xs : List ℕ) → every f (take i xs) ≡ true → f (get_or xs i 0) ≡ true → every f (take (suc i) xs) ≡ true
unfolding every
every_suc f i [] p q = refl
every_suc f zero (x ∷ xs) p q = both q refl
every_suc f (suc i) (x ∷ xs) p q = both (and_left (f x) _ p) (every_suc f i xs (and_right (f x) _ p) q)

pub every_next : (f : ℕ → Bool) (i : ℕ) (xs : List ℕ) → every f (take i xs) ≡ true → f (get_or xs i 0) ≡ true → every f (take (i + 1) xs) ≡ true
every_next f i xs p q = rw add-one (every_suc f i xs p q)

-- one of the first n fails
pub every_fails : (f : ℕ → Bool) (n i : ℕ) (xs : List ℕ) → i < n → i < length xs → f (get_or xs i 0) ≡ false → every f (take n xs) ≡ false
every_fails f n i xs a b q = fails (every f (take n xs)) (λ h. never (every_at f (take n xs) h (get_or xs i 0) (mem_take n xs i a b)) q)

-- ---- over the numbers of entries
pub also : (a b : Bool) → (a && b) ≡ a and b
also true b = refl
also false b = refl

pub every_numbers : (f : ℕ → Bool) (es : List Entry) → list_all (λ (e : Entry). f e.0) es ≡ every f (numbers es)
unfolding every
every_numbers f [] = refl
every_numbers f (e ∷ es) = rw (every_numbers f es) (also (f e.0) (every f (numbers es)))

pub sum_numbers : (f : ℕ → ℕ) (es : List Entry) → sum_by (λ (e : Entry). f e.0) es ≡ sum_of f (numbers es)
unfolding sum_of
sum_numbers f [] = refl
sum_numbers f (e ∷ es) = sum_by-cons (λ (x : Entry). f x.0) e es ∙ ap (λ (n : ℕ). f e.0 + n) (sum_numbers f es)

-- where none is over m
pub sum_most : (f : ℕ → ℕ) (m : ℕ) → ((x : ℕ) → f x ≤ m) → (xs : List ℕ) → sum_of f xs ≤ m * length xs
unfolding sum_of
sum_most f m h [] = omega arith
sum_most f m h (x ∷ xs) = omega (arith, h x, sum_most f m h xs)

-- the first n entries, where m is n in another type of the code
pub numbers_first : (m n : ℕ) (es : List Entry) → m ≡ n → numbers (take m es) ≡ take n (numbers es)
numbers_first m n es same = rw same (numbers_take n es)

-- ---- the first i numbers through f, and zeros after them
abbrev pub through : (ℕ → ℕ) → ℕ → List ℕ → List ℕ
through f i [] = []
through f zero (x ∷ xs) = 0 ∷ through f zero xs
through f (suc i) (x ∷ xs) = f x ∷ through f i xs

through_suc : (f : ℕ → ℕ) (i : ℕ) (xs : List ℕ) → set (through f i xs) i (f (get_or xs i 0)) ≡ through f (suc i) xs
through_suc f i [] = refl
through_suc f zero (x ∷ xs) = refl
through_suc f (suc i) (x ∷ xs) = ap (λ (ys : List ℕ). f x ∷ ys) (through_suc f i xs)

pub through_next : (f : ℕ → ℕ) (i : ℕ) (xs : List ℕ) → set (through f i xs) i (f (get_or xs i 0)) ≡ through f (i + 1) xs
through_next f i xs = rw add-one (through_suc f i xs)

-- number i of a list's four is that of handle i of the first n
pub beside_first : (hs : List Handle) (i n : ℕ) → i < 4 → i < n → get_or (numbers_beside hs) i 0 ≡ (get_or (take n hs) i (record { 0 = 0 })).0
beside_first hs i n few within = number_beside hs i few ∙ ap (λ (h : Handle). h.0) (sym (get_or-take n hs i (record { 0 = 0 }) within))

-- of the numbers of a list's handles
module _ (f : ℕ → ℕ) (hs : List Handle) where
  -- all four with the zeros, and the first n of them
  pub through_all : (n : ℕ) → n ≤ 4
      → (through f n (numbers_beside hs) ≡ take 4 (map f (take n (numbers_beside hs)) ++ replicate 4 0))
      × (take n (through f n (numbers_beside hs)) ≡ map f (take n (numbers_beside hs)))
  through_all zero l = (refl, refl)
  through_all (suc zero) l = (refl, refl)
  through_all (suc (suc zero)) l = (refl, refl)
  through_all (suc (suc (suc zero))) l = (refl, refl)
  through_all (suc (suc (suc (suc zero)))) l = (refl, refl)
  through_all (suc (suc (suc (suc (suc n))))) l = absurd (omega arith)

  -- what stands for it, where the first n of the four are read again
  module _ (n : ℕ) (l : n ≤ 4) (ys : List ℕ) (q : ys ≡ take 4 (map f (take n (numbers_beside hs)) ++ replicate 4 0)) where
    pub padded_take : take n ys ≡ map f (take n (numbers_beside hs))
    padded_take = ap (λ (zs : List ℕ). take n zs) (q ∙ sym (through_all n l).0) ∙ (through_all n l).1

    pub padded_again : ys ≡ take 4 (take n ys ++ replicate 4 0)
    padded_again = q ∙ ap (λ (zs : List ℕ). take 4 (zs ++ replicate 4 0)) (sym padded_take)
