-- `room::has_room` meets its contract: what is left is the difference, and nothing is left where more is used than there is.
use mathlib.Core.Path.{refl}
use Rattle.room.proofs.has_room.Goals as goal

pub returns : goal.returns
returns c = rw (← c.capacity.ensures, ← c.used.ensures, c.saturating_sub.ensures) refl
