-- The bit of a mask that a shift leaves last. Assumes nothing.
use Prim.Native.Nat.{ℕ, ◌-◌, ◌/◌, ◌%◌, ◌^◌, ◌≤◌, ◌<◌}
use native.Mathlib.Omega.{arith}
use mathlib.Core.Path.{◌≡◌, refl, sym}
use mathlib.Core.Bool.{false}
use lib.Dec.{eqb}
use borrow.Author.Tests.{le-leb}
use Rattle.std.specs.Prelude.{Option, Some, None, unwrap_or}
use Rattle.std.specs.Option.{SomeIff}
use Rattle.rules.specs.Table.{in_mask}
use Rattle.rules.proofs.KeyHolders.{mask_low}

-- there is no participant 0
pub nobody_masked : (m p : ℕ) → p ≡ 0 → false ≡ in_mask m p
unfolding in_mask
nobody_masked m p z = rw z refl

-- a shift by p - 1 leaves participant p's bit last, and past the shifts that a word has there is no bit
pub bit_left : (m p : ℕ) → 1 ≤ p → m < 2 ^ 16 → (o : Option ℕ) (r : ℕ) → SomeIff o (p - 1 < 16) (m / 2 ^ (p - 1)) → r ≡ unwrap_or o 0
    → eqb (r % 2) 1 ≡ in_mask m p
unfolding in_mask
bit_left m p h l (Some x) r s q = rw (q, s.1, le-leb 1 p h) refl
bit_left m p h l None r s q = rw q (sym (mask_low 16 m p l (omega arith)))
