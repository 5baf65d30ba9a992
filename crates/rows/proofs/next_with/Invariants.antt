-- `rows::next_with` meets its contract: a row always starts at the place, and none above e up to that row has both words.
use Prim.Native.Nat.{◌-◌}
use Rattle.rows.specs.Search.{has_both, Reached}
use Rattle.rows.proofs.next_with.Given as goal

abbrev pub invariant-loop-at : goal.invariant-loop-at
invariant-loop-at l = Reached l.t l.row (has_both l.t l.s.k l.s.v l.s.j l.s.w) l.at

abbrev pub decreases-loop-at : goal.decreases-loop-at
decreases-loop-at l = l.last - l.at
