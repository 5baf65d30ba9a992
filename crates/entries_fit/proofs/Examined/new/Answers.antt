-- `entries_fit::new` meets its contract: the seven numbers are the entry's.
use Rattle.std.proofs.Common.{rules}
use Rattle.rules.specs.Table.{arguments}
use Rattle.entries_fit.proofs.Examined.new.Goals as goal

pub invariant_of-result : goal.invariant_of-result
unfolding arguments
invariant_of-result c = rw c.numbers.ensures (search rules)
