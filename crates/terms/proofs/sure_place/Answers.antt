-- `terms::sure_place` meets its contract: the test is the definition's.
use mathlib.Core.Path.{refl}
use borrow.Author.Tests.{lt-ltb, le-ltb}
use Rattle.terms.specs.Elements.{sure_place}
use Rattle.terms.proofs.sure_place.Goals as goal

pub returns-then-i-count : goal.returns-then-i-count
unfolding sure_place
returns-then-i-count c = rw (lt-ltb _ _ c.if-i-count.true) refl

pub returns-else-i-count : goal.returns-else-i-count
unfolding sure_place
returns-else-i-count c = rw (le-ltb _ _ c.if-i-count.false) refl
