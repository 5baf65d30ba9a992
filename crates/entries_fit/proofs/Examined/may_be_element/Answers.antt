-- `entries_fit::may_be_element` meets its contract: the two tests are the rule's.
use mathlib.Core.Path.{refl}
use Rattle.rules.specs.WellFormed.{may_be_element}
use Rattle.rules.proofs.Logic.{and_goes}
use Rattle.entries_fit.proofs.Examined.may_be_element.Goals as goal

pub returns-then-is_earlier : goal.returns-then-is_earlier
unfolding may_be_element
returns-then-is_earlier c = and_goes c.is_earlier.ensures c.if-is_earlier.true (rw c.kind.ensures refl)

pub returns-else-is_earlier : goal.returns-else-is_earlier
unfolding may_be_element
returns-else-is_earlier c = rw (← c.is_earlier.ensures, c.if-is_earlier.false) refl
