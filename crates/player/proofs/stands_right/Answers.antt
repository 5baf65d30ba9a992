-- `player::stands_right` meets its contract: a set-up stands first, a request anywhere else.
use Rattle.player.proofs.Knowing.{stands}
use Rattle.player.proofs.stands_right.Goals as goal

pub returns : goal.returns
returns c = rw c.is_set_up.ensures (stands _ _)
