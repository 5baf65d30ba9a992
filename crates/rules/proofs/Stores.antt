-- Stores of one number after another into a run: two such rows of stores, the second where the first ends, are one row. Assumes nothing.
use Prim.Native.Nat.{ℕ, suc, ◌+◌}
use native.Mathlib.Nat.{add-zero, add-suc, suc-add}
use mathlib.Core.Path.{◌≡◌}
use mathlib.Core.List.{List, [], ◌∷◌, ◌++◌}
use lib.ListN.{length, set}
use lib.Seq.{sets}

pub sets_append : (a : List ℕ) (i : ℕ) (xs ys : List ℕ) → sets (sets a i xs) (i + length xs) ys ≡ sets a i (xs ++ ys)
sets_append a i [] ys = rw add-zero
sets_append a i (x ∷ xs) ys = rw (add-suc, ← suc-add) (sets_append (set a i x) (suc i) xs ys)
