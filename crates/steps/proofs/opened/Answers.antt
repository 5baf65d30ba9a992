-- `steps::opened` meets its contract: each entry is the argument that the rule names.
use mathlib.Core.Path.{refl}
use Rattle.rules.specs.Table.{arguments}
use Rattle.steps.proofs.opened.Goals as goal

pub returns : goal.returns
unfolding arguments
returns c =
    rw (← c.first.ensures, ← c.second.ensures, ← c.first-2.ensures, ← c.second-2.ensures, ← c.third.ensures) refl
