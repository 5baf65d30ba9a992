-- `text::value` meets its contract: the space, then the number.
use Rattle.text.proofs.Putting.{value_put}
use Rattle.text.proofs.value.Goals as goal

pub returns : goal.returns
returns c = rw (← c.from.ensures) (value_put _ c.byte-after.ensures c.number.ensures)
