-- `entries_fit::ciphertext_fits` meets its contract: the tests are the rule's.
use native.Mathlib.Omega.{arith}
use mathlib.Core.Path.{refl}
use borrow.Author.Tests.{eq-eqb, ne_eqb}
use Rattle.rules.specs.Table.{arguments}
use Rattle.rules.specs.WellFormed.{ciphertext_fits}
use Rattle.entries_fit.proofs.Examined.ciphertext_fits.Goals as goal

pub returns-then-self : goal.returns-then-self
unfolding ciphertext_fits
returns-then-self c = rw (← c.args.self.now.kinds, ne_eqb _ 4 c.if-self.true) refl

pub returns-then-is_earlier : goal.returns-then-is_earlier
unfolding ciphertext_fits arguments
returns-then-is_earlier c = grind (arith, eq-eqb, ne_eqb)

pub returns-else-is_earlier : goal.returns-else-is_earlier
unfolding ciphertext_fits arguments
returns-else-is_earlier c = grind (arith, eq-eqb, ne_eqb)
