-- Set-up names nobody for a key but knower 0 and the honest: it goes by the mask alone, and a mask below 2 ^ n has nobody past n.
-- Assumes nothing.
use Rattle.std.specs.Prelude.{if◌then◌else◌}
use Prim.Native.Nat.{ℕ, ◌-◌, ◌^◌, ◌≤◌, ◌<◌}
use native.Mathlib.Nat.{pow-le-pow_right, div-eq_of_lt}
use native.Mathlib.Omega.{arith}
use mathlib.Core.Path.{◌≡◌, refl}
use mathlib.Core.Logic.{◌≢◌}
use mathlib.Core.Bool.{Bool, true, false}
use lib.Dec.{eqb}
use borrow.Author.Tests.{le-leb, ne_eqb}
use Rattle.rules.specs.Table.{in_mask}
use Rattle.rules.specs.SetUp.{holds_secret_key, holds_public_key}
use Rattle.rules.proofs.Logic.{never}

pub mask_low : (n m k : ℕ) → m < 2 ^ n → n < k → in_mask m k ≡ false
unfolding in_mask
mask_low n m k h l =
    let i : n ≤ k - 1 = omega arith in
    let p : 2 ^ n ≤ 2 ^ (k - 1) = pow-le-pow_right (omega arith) i in
    let q : m < 2 ^ (k - 1) = omega arith in
    rw (le-leb 1 k (omega arith), div-eq_of_lt q) refl

pub secret_stranger : (m p k : ℕ) → k ≢ 0 → in_mask m k ≡ false → holds_secret_key m p k ≡ false
unfolding holds_secret_key
secret_stranger m p k n h = go (in_mask m p) refl
  where
    go : (b : Bool) → in_mask m p ≡ b → (if b then eqb k p else eqb k 0) ≡ false
    go true q = ne_eqb k p (λ e. never q (rw e at h))
    go false q = ne_eqb k 0 n

pub public_stranger : (m k : ℕ) → k ≢ 0 → in_mask m k ≡ false → holds_public_key m k ≡ false
unfolding holds_public_key
public_stranger m k n h = rw (ne_eqb k 0 n, h) refl
