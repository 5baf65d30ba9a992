-- `messages::is_for` meets its contract: the two tests are the rule's, and twice a word fits in 32 bits.
use mathlib.Core.Path.{refl}
use borrow.Author.Tests.{eq-eqb, ne_eqb}
use Rattle.rules.specs.Terms.{public_key_of}
use Rattle.rules.specs.Steps.{is_for}
use Rattle.messages.proofs.is_for.Goals as goal

pub returns-then-kind : goal.returns-then-kind
unfolding is_for public_key_of
returns-then-kind c =
    rw (← c.kind.ensures, eq-eqb _ 4 c.if-kind.true, ← c.first.ensures, c.from.ensures, c.from-then-kind.ensures) refl

pub returns-else-kind : goal.returns-else-kind
unfolding is_for
returns-else-kind c = rw (← c.kind.ensures, ne_eqb _ 4 c.if-kind.false) refl
