-- `formed::well_formed` meets its contract: the clauses are the rule's, in its order, by the second the participants are few,
-- and by the first and the third the used rows lie in the run.
use native.Mathlib.Omega.{arith}
use Rattle.std.proofs.lemmas.Grind.{common_steps}
use Rattle.rules.specs.WellFormed.{well_formed}
use Rattle.formed.proofs.Counting.{few, used_inside}
use Rattle.formed.proofs.well_formed.Goals as goal

pub all_keys_fit-requires : goal.all_keys_fit-requires
all_keys_fit-requires c = grind (arith, common_steps, few)

pub all_handles_fit-requires : goal.all_handles_fit-requires
all_handles_fit-requires c = grind (arith, common_steps, used_inside)

pub returns-then-entries_fit : goal.returns-then-entries_fit
unfolding well_formed
returns-then-entries_fit c = grind (arith, common_steps)

pub returns-else-entries_fit : goal.returns-else-entries_fit
unfolding well_formed
returns-else-entries_fit c = grind (arith, common_steps)
