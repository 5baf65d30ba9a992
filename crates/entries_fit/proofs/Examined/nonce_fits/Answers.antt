-- `entries_fit::nonce_fits` meets its contract: the tests are the rule's.
use mathlib.Core.Path.{refl}
use borrow.Author.Tests.{le-leb, lt-leb, eq-eqb, ne_eqb}
use Rattle.rules.specs.Table.{arguments}
use Rattle.rules.specs.WellFormed.{nonce_fits}
use Rattle.entries_fit.proofs.Examined.nonce_fits.Goals as goal

pub returns-then-self : goal.returns-then-self
unfolding nonce_fits
returns-then-self c = rw (← c.args.self.now.kinds, ne_eqb _ 2 c.if-self.true) refl

pub returns-then-self-2 : goal.returns-then-self-2
unfolding nonce_fits arguments
returns-then-self-2 c =
    let s = c.args.self.now in
    rw (← s.kinds, eq-eqb _ 2 c.if-self.false, ← s.participants, s.arguments, le-leb _ _ (rw s.arguments at c.if-self-2.true)) refl

pub returns-else-self-2 : goal.returns-else-self-2
unfolding nonce_fits arguments
returns-else-self-2 c =
    let s = c.args.self.now in
    rw (← s.kinds, eq-eqb _ 2 c.if-self.false, ← s.participants, s.arguments, lt-leb _ _ (rw s.arguments at c.if-self-2.false)) refl
