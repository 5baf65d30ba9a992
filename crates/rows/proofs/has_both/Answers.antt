-- `rows::has_both` meets its contract: the second word is looked at only where the first is as it should be.
use mathlib.Core.Path.{refl}
use borrow.Author.Tests.{eq-eqb, ne_eqb}
use Rattle.rows.specs.Search.{has_both}
use Rattle.rows.proofs.has_both.Goals as goal

pub returns-then-word-s : goal.returns-then-word-s
unfolding has_both
returns-then-word-s c = rw (← c.word.ensures, eq-eqb _ _ c.if-word-s.true, ← c.word-then-word-s.ensures) refl

pub returns-else-word-s : goal.returns-else-word-s
unfolding has_both
returns-else-word-s c = rw (← c.word.ensures, ne_eqb _ _ c.if-word-s.false) refl
