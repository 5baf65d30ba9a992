-- Laws of the numbers of a list's four handles, and of when it can be asked for. Assumes nothing.
use Prim.Native.Nat.{ℕ, zero, suc, ◌-◌, ◌≤◌, ◌<◌}
use native.Mathlib.Omega.{arith}
use mathlib.Core.Path.{◌≡◌, refl, ◌∙◌}
use mathlib.Core.Bool.{Bool, true, false}
use mathlib.Core.List.{List, [], ◌∷◌, map}
use lib.Dec.{eqb, leb}
use lib.ListN.{length, get_or, take, drop}
use borrow.Author.Tests.{le-leb, leb-true}
use Rattle.std.specs.Prelude.{◌&&◌}
use Rattle.std.specs.List.{list_all}
use Rattle.std.proofs.lemmas.List.{drop-map, take_all}
use Rattle.std.proofs.Common.{length-drop}
use Rattle.rules.specs.Choice.{◌and◌, every, is_zero}
use Rattle.rules.specs.Commands.{list_is_asked}
use Rattle.rules.specs.Meaning.{beside_at}
use Rattle.rules.specs.declared.Handle.{Handle}
use Rattle.rules.proofs.Logic.{and_left, and_right}
use Rattle.beside.specs.Beside.{numbers_beside}

-- number i is that of the array's handle i
pub number_beside : (hs : List Handle) (i : ℕ) → i < 4 → get_or (numbers_beside hs) i 0 ≡ (get_or hs i (record { 0 = 0 })).0
unfolding beside_at
number_beside hs zero h = refl
number_beside hs (suc zero) h = refl
number_beside hs (suc (suc zero)) h = refl
number_beside hs (suc (suc (suc zero))) h = refl
number_beside hs (suc (suc (suc (suc i)))) h = absurd (omega arith)

-- a list that can be asked for has no more than four
pub asked_fits : (k : ℕ) (hs : List ℕ) → list_is_asked k hs ≡ true → k ≤ 4
unfolding list_is_asked
asked_fits k hs p = leb-true k 4 (and_left (leb k 4) _ (and_right (leb 1 k) _ p))

-- the numbers are those of the array's four handles
numbers_are : (hs : List Handle) → length hs ≡ 4 → numbers_beside hs ≡ map (λ (h : Handle). h.0) hs
unfolding beside_at
numbers_are (a ∷ b ∷ c ∷ d ∷ []) l = refl
numbers_are (a ∷ b ∷ c ∷ d ∷ e ∷ hs) l = absurd (omega arith)
numbers_are (a ∷ b ∷ c ∷ []) l = absurd (omega arith)
numbers_are (a ∷ b ∷ []) l = absurd (omega arith)
numbers_are (a ∷ []) l = absurd (omega arith)
numbers_are [] l = absurd (omega arith)

-- each of them is zero if each handle's is
all_zero : (hs : List Handle) → list_all (λ (h : Handle). eqb h.0 0) hs ≡ every is_zero (map (λ (h : Handle). h.0) hs)
unfolding every is_zero
all_zero [] = refl
all_zero (h ∷ hs) = go (eqb h.0 0) _ _ (all_zero hs)
  where
    go : (b c d : Bool) → c ≡ d → (b && c) ≡ (b and d)
    go true c d e = e
    go false c d e = refl

-- the handles from number k on decide
pub zeros_left : (hs : List Handle) (k n : ℕ) (b : Bool) → length hs ≡ 4 → 1 ≤ k → k ≤ 4 → n ≡ k
    → b ≡ list_all (λ (h : Handle). eqb h.0 0) (take (4 - n) (drop n hs)) → b ≡ list_is_asked k (numbers_beside hs)
unfolding list_is_asked
zeros_left hs k n b l low high e q =
    let short : length (drop n hs) ≤ 4 - n = omega (arith, length-drop n hs) in
    q ∙ rw (take_all (4 - n) (drop n hs) short, e, le-leb 1 k low, le-leb k 4 high, numbers_are hs l, drop-map (λ (h : Handle). h.0) k hs) (all_zero (drop k hs))
