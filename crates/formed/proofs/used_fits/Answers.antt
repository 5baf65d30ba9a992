-- `formed::used_fits` meets its contract: the two tests are the rule's.
use native.Mathlib.Omega.{arith}
use Rattle.std.proofs.lemmas.Grind.{common_steps}
use Rattle.rules.specs.WellFormed.{used_fits}
use Rattle.formed.proofs.used_fits.Goals as goal

pub returns-then-from : goal.returns-then-from
unfolding used_fits
returns-then-from c = grind (arith, common_steps)

pub returns-else-from : goal.returns-else-from
unfolding used_fits
returns-else-from c = grind (arith, common_steps)
