-- `messages::read_message` meets its contract: what is sealed for r is read, all else is none.
use mathlib.Core.Path.{refl}
use Rattle.rules.specs.Steps.{read_message}
use Rattle.rules.proofs.Logic.{found_true, found_false}
use Rattle.messages.specs.Reading.{read_as}
use Rattle.messages.proofs.read_message.Goals as goal

pub returns-then-not-is_for : goal.returns-then-not-is_for
unfolding read_as read_message
returns-then-not-is_for c = rw (← c.first.ensures, found_false c.is_for.ensures c.if-not-is_for.true) refl

pub returns : goal.returns
unfolding read_message
returns c =
    rw (← c.first.ensures, found_true c.is_for.ensures c.if-not-is_for.false, ← c.second.ensures) c.read_list.ensures
