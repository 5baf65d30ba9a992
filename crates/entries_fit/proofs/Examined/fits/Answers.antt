-- `entries_fit::fits` meets its contract: the clauses are the rule's, in its order.
use native.Mathlib.Omega.{arith}
use Rattle.rules.specs.WellFormed.{entry_fits}
use Rattle.entries_fit.proofs.Examined.fits.Goals as goal

pub returns-then-ciphertext_fits : goal.returns-then-ciphertext_fits
unfolding entry_fits
returns-then-ciphertext_fits c = grind arith

pub returns-else-ciphertext_fits : goal.returns-else-ciphertext_fits
unfolding entry_fits
returns-else-ciphertext_fits c = grind arith
