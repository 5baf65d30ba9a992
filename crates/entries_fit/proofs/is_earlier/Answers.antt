-- `entries_fit::is_earlier` meets its contract: the two tests are the rule's.
use Rattle.std.proofs.Common.{rules}
use Rattle.rules.specs.WellFormed.{is_earlier}
use Rattle.entries_fit.proofs.is_earlier.Goals as goal

pub returns : goal.returns
unfolding is_earlier
returns c = search rules
