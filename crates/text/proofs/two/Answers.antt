-- `text::two` meets its contract: one digit, then the other.
use Prim.Native.Nat.{◌/◌, ◌%◌}
use mathlib.Core.Path.{◌≡◌}
use Rattle.rules.specs.Player.{digit}
use Rattle.text.proofs.Putting.{then}
use Rattle.text.proofs.two.Goals as goal

pub returns : goal.returns
returns c =
    let n = c.args.n in
    let high : c.last.result ≡ digit (n / 10 % 10) = c.last.ensures in
    let low : c.last-2.result ≡ digit (n % 10) = c.last-2.ensures in
    rw (← high, ← low) (then c.byte-after.ensures c.byte.ensures)
