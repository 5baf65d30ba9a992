-- Walks over the arguments of an entry, as the library says them and as the rules do. Assumes nothing.
use Prim.Native.Nat.{ℕ, suc, ◌+◌, ◌-◌, ◌<◌, ◌≤◌}
use native.Mathlib.Omega.{arith}
use mathlib.Core.Path.{◌≡◌, refl}
use mathlib.Core.Bool.{Bool, true, false, ◌&&◌}
use mathlib.Core.List.{List, [], ◌∷◌}
use lib.Dec.{ltb}
use lib.ListN.{drop}
use borrow.Author.Tests.{lt-ltb, le-ltb}
use native.Mathlib.Decide.{dec_lt}
use Rattle.std.specs.List.{list_all, sum_by, enumerate_from}
use Rattle.std.proofs.lemmas.List.Sums.{sum_by-cons}
use Rattle.std.proofs.lemmas.List.{drop_all}
use Rattle.rules.specs.Choice.{◌and◌, ◌or◌, every, sum_of}

and_is : (a b : Bool) → a && b ≡ a and b
and_is true b = refl
and_is false b = refl

-- the library's walks over a list are the rules'
pub all_is_every : (f : ℕ → Bool) (xs : List ℕ) → list_all f xs ≡ every f xs
unfolding every
all_is_every f [] = refl
all_is_every f (x ∷ xs) = rw (all_is_every f xs) (and_is (f x) (every f xs))

pub sum_is : (f : ℕ → ℕ) (xs : List ℕ) → sum_by f xs ≡ sum_of f xs
unfolding sum_of
sum_is f [] = refl
sum_is f (x ∷ xs) = rw (sum_by-cons, sum_is f xs) refl

-- each number passes that stands past the first n, if it passes or stands below place n
pub left_pass : (f : ℕ → Bool) (xs : List ℕ) (k n : ℕ) → list_all (λ (p : ℕ × ℕ). ltb p.0 n or f p.1) (enumerate_from k xs) ≡ every f (drop (n - k) xs)
unfolding every
left_pass f [] k n = rw (drop_all {X = ℕ} (n - k) [] (omega arith)) refl
left_pass f (x ∷ xs) k n = go (left_pass f xs (k + 1) n) (dec_lt k n)
  where
    test : ℕ × ℕ → Bool
    test p = ltb p.0 n or f p.1

    go : list_all test (enumerate_from (k + 1) xs) ≡ every f (drop (n - (k + 1)) xs) → Dec (k < n)
        → list_all test (enumerate_from k (x ∷ xs)) ≡ every f (drop (n - k) (x ∷ xs))
    go later (yes l) = let more : n - k ≡ suc (n - (k + 1)) = omega arith in rw (lt-ltb k n l, more) later
    go later (no l) =
        let here : n ≤ k = omega arith in
        let none : n - k ≡ 0 = omega arith in
        let still : n - (k + 1) ≡ 0 = omega arith in
        rw (le-ltb k n here, none, later, still) (and_is (f x) (every f xs))
