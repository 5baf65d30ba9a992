-- `terms::is_datum_of` meets its contract: the two tests are the rule's.
use mathlib.Core.Path.{refl}
use borrow.Author.Tests.{eq-eqb, ne_eqb}
use Rattle.rules.specs.Terms.{is_datum_of}
use Rattle.terms.proofs.is_datum_of.Goals as goal

pub returns-then-kind : goal.returns-then-kind
unfolding is_datum_of
returns-then-kind c = rw (← c.kind.ensures, eq-eqb _ 1 c.if-kind.true, ← c.first.ensures) refl

pub returns-else-kind : goal.returns-else-kind
unfolding is_datum_of
returns-else-kind c = rw (← c.kind.ensures, ne_eqb _ 1 c.if-kind.false) refl
