-- `rows::next_by_word` meets its contract: when entry x is reached none above e up to x has both words.
use Prim.Native.Nat.{◌≤◌}
use Rattle.rows.specs.Search.{has_both, NoneTo}
use Rattle.rows.proofs.next_by_word.Given as goal

abbrev pub invariant-loop-below : goal.invariant-loop-below
invariant-loop-below l = (l.fn.e.0 ≤ l.below) × NoneTo l.fn.e.0 (has_both l.t l.s.k l.s.v l.s.j l.s.w) l.below
