-- `messages::read_one` meets its contract: the test is the rule's.
use Rattle.rules.specs.Steps.{read_one}
use Rattle.messages.specs.Reading.{taken_for}
use Rattle.messages.proofs.Read.{read_if}
use Rattle.messages.proofs.read_one.Goals as goal

pub returns : goal.returns
unfolding read_one taken_for
returns c = rw (← c.first.ensures, ← c.is_nonce_of.ensures) (read_if _ _ _ c.then_some.ensures)
