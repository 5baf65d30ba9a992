-- `formed::handles_fit` meets its contract: the tests are the rule's, and the handles are known to be below.
use native.Mathlib.Omega.{arith}
use Rattle.std.proofs.lemmas.Grind.{common_steps}
use Rattle.rules.specs.WellFormed.{handles_fit}
use Rattle.formed.proofs.handles_fit.Goals as goal

pub returns-then-holding_fits : goal.returns-then-holding_fits
unfolding handles_fit
returns-then-holding_fits c = grind (arith, common_steps)

pub returns-else-holding_fits : goal.returns-else-holding_fits
unfolding handles_fit
returns-else-holding_fits c = grind (arith, common_steps)
