-- `rows::next_by_word` meets its contract: when entry x is reached none above e up to x has both words.
use native.Mathlib.Omega.{arith}
use Rattle.rules.specs.Meaning.{found_at}
use Rattle.rows.proofs.Search.{next_nothing, next_found}
use Rattle.rows.proofs.next_by_word.Goals as goal

pub returns-then-has_both : goal.returns-then-has_both
unfolding found_at
returns-then-has_both c =
    next_found _ _ _ _ _ _ c.loop-below.below c.loop-below.invariant.0 (omega (arith, c.used-below-end.ensures)) c.loop-below.invariant.1 (rw c.has_both.ensures at c.if-has_both.true)

pub returns : goal.returns
unfolding found_at
returns c =
    next_nothing _ _ _ _ _ _ c.loop-below.below (omega (arith, c.used-below-end.ensures)) c.loop-below.invariant.1
