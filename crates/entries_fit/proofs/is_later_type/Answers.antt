-- `entries_fit::is_later_type` meets its contract: the two tests are the rule's.
use Rattle.rules.specs.WellFormed.{is_later_type}
use Rattle.std.proofs.Common.{rules}
use Rattle.entries_fit.proofs.is_later_type.Goals as goal

pub returns : goal.returns
unfolding is_later_type
returns c = search rules
