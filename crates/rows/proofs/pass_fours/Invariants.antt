-- `rows::pass_fours` meets its contract: a row is passed only where its word k isn't v.
use Prim.Native.Nat.{◌+◌, ◌*◌, ◌-◌, ◌≤◌, ◌<◌}
use lib.ListN.{length}
use Rattle.rows.specs.Search.{Passes}
use Rattle.rows.proofs.pass_fours.Given as goal

abbrev pub invariant-loop-at : goal.invariant-loop-at
invariant-loop-at l = (l.from ≤ l.at) × (l.at < 21 * 65536 + length l.t) × Passes l.t l.k l.v l.from l.at

abbrev pub decreases-loop-at : goal.decreases-loop-at
decreases-loop-at l = l.last - l.at
