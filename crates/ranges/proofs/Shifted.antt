-- A mask is below 2 to the n if nothing of it is left once it is shifted by n. Assumes nothing.
use Prim.Native.Nat.{ℕ, ◌/◌, ◌^◌, ◌≤◌, ◌<◌}
use native.Mathlib.Nat.{div-eq_of_lt, pow-le-pow_right}
use native.Mathlib.Omega.{arith}
use native.Mathlib.Decide.{dec_lt}
use mathlib.Core.Path.{◌≡◌, refl}
use lib.Dec.{eqb, ltb}
use borrow.Author.Tests.{ne_eqb, lt-ltb, le-ltb}
use Rattle.std.specs.Prelude.{Option, Some, None, unwrap_or}
use Rattle.std.specs.Option.{SomeIff}
use Rattle.std.proofs.lemmas.Nat.{le-div, pow_pos}
use Rattle.rules.specs.SetUp.{mask_fits}

none_over : (m a : ℕ) → 0 < a → eqb (m / a) 0 ≡ ltb m a
none_over m a h = go (dec_lt m a)
  where
    go : Dec (m < a) → eqb (m / a) 0 ≡ ltb m a
    go (yes l) = rw (div-eq_of_lt l, lt-ltb m a l) refl
    go (no l) =
        let one : 1 ≤ m / a = le-div 1 m a h (omega arith) in
        rw (ne_eqb (m / a) 0 (λ q. omega arith), le-ltb m a (omega arith)) refl

-- past the shifts that a word has, each mask that a word holds fits
pub none_left : (n m : ℕ) → m < 2 ^ 16 → (o : Option ℕ) (r : ℕ) → SomeIff o (n < 16) (m / 2 ^ n) → r ≡ unwrap_or o 0
    → eqb r 0 ≡ mask_fits n m
unfolding mask_fits
none_left n m l (Some x) r s q = rw (q, s.1) (none_over m (2 ^ n) (pow_pos n))
none_left n m l None r s q =
    let p : 2 ^ 16 ≤ 2 ^ n = pow-le-pow_right (omega arith) {i = 16} {j = n} (omega arith) in
    rw (q, lt-ltb m (2 ^ n) (omega arith)) refl
