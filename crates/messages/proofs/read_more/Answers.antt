-- `messages::read_more` meets its contract: the two tests are the rule's.
use mathlib.Core.Path.{refl}
use Rattle.rules.specs.Steps.{read_more}
use Rattle.rules.proofs.Logic.{found_true, found_false}
use Rattle.messages.specs.Reading.{taken_for, read_as}
use Rattle.messages.proofs.Read.{read_if}
use Rattle.messages.proofs.read_more.Goals as goal

pub returns-then-not-is_nonce_of : goal.returns-then-not-is_nonce_of
unfolding read_as read_more
returns-then-not-is_nonce_of c = rw (← c.first.ensures, found_false c.is_nonce_of.ensures c.if-not-is_nonce_of.true) refl

pub returns : goal.returns
unfolding read_more taken_for
returns c =
    rw (
      ← c.first.ensures,
      found_true c.is_nonce_of.ensures c.if-not-is_nonce_of.false,
      ← c.third.ensures,
      ← c.is_datum_of.ensures,
      ← c.second.ensures,
    )
    (read_if _ _ _ c.then_some.ensures)
