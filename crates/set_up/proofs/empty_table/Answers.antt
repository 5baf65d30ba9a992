-- `set_up::empty_table` meets its contract: it makes the stores of the rule's head on a cleared run.
use Rattle.rules.specs.Table.{this_version}
use Rattle.set_up.proofs.Emptying.{emptied}
use Rattle.set_up.proofs.empty_table.Goals as goal

pub returns : goal.returns
unfolding this_version
returns c =
    emptied _ _ _ _ _ _ _ _ _ _ c.clear_table.ensures c.put.ensures c.put-2.ensures c.put-3.ensures c.put-4.ensures
    c.first_handles.ensures
