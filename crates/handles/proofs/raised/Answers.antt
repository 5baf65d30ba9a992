-- `handles::raised` meets its contract: the largest number stays, as by the rule.
use Rattle.std.proofs.Math.Nat.{min-eq_left, min-eq_right}
use Prim.Native.Nat.{ℕ, ◌+◌, ◌<◌, min}
use native.Mathlib.Omega.{arith}
use native.Mathlib.Decide.{dec_lt}
use mathlib.Core.Path.{◌≡◌, ◌∙◌}
use borrow.Author.Tests.{lt-ltb, le-ltb}
use Rattle.rules.specs.Table.{largest, raised}
use Rattle.handles.proofs.raised.Goals as goal

largest_stays : (n : ℕ) → n < 65536 → min (n + 1) 65535 ≡ raised n
unfolding raised largest
largest_stays n h = go (dec_lt n 65535)
  where
    go : Dec (n < 65535) → min (n + 1) 65535 ≡ raised n
    go (yes p) = rw (lt-ltb n 65535 p) (min-eq_left (omega arith))
    go (no p) = rw (le-ltb n 65535 (omega (arith, p))) (min-eq_right {n = 65535} {m = n + 1} (omega (arith, p)) ∙ omega (arith, p))

pub returns : goal.returns
returns c = c.saturating_add.ensures ∙ largest_stays _ c.ranges.n.fits
