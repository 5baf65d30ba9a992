-- `terms::sure_number` meets its contract: the test is the definition's.
use mathlib.Core.Path.{refl}
use borrow.Author.Tests.{lt-ltb, le-ltb}
use Rattle.terms.specs.Elements.{sure_number}
use Rattle.terms.proofs.sure_number.Goals as goal

pub returns-then-i-count : goal.returns-then-i-count
unfolding sure_number
returns-then-i-count c = rw (lt-ltb _ _ c.if-i-count.true) refl

pub returns-else-i-count : goal.returns-else-i-count
unfolding sure_number
returns-else-i-count c = rw (le-ltb _ _ c.if-i-count.false) refl
