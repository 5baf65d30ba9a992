-- `handles::holds` meets its contract: the same test of the same word.
use Rattle.rules.specs.Handles.{holds}
use Rattle.handles.proofs.holds.Goals as goal

pub returns : goal.returns
unfolding holds
returns c = rw (← c.handle.ensures) c.ne.ensures
