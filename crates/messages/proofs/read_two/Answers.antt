-- `messages::read_two` meets its contract: the test is the rule's.
use Rattle.rules.specs.Steps.{read_two}
use Rattle.messages.specs.Reading.{taken_for}
use Rattle.messages.proofs.Read.{read_if}
use Rattle.messages.proofs.read_two.Goals as goal

pub returns : goal.returns
unfolding read_two taken_for
returns c = rw (← c.second.ensures, ← c.is_datum_of.ensures, ← c.first.ensures) (read_if _ _ _ c.then_some.ensures)
