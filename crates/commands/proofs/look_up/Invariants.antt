-- `commands::look_up` meets its contract: when handle i is reached the first i are held, and the entries are theirs with zeros after
-- them.
use mathlib.Core.Path.{◌≡◌}
use mathlib.Core.Bool.{true}
use lib.ListN.{take}
use Rattle.rules.specs.Choice.{every}
use Rattle.rules.specs.Handles.{entry_of, holds_handle}
use Rattle.terms.specs.Elements.{numbers}
use Rattle.beside.specs.Beside.{numbers_beside}
use Rattle.commands.proofs.Arrays.{through}
use Rattle.commands.proofs.look_up.Given as goal

abbrev pub invariant-loop-i : goal.invariant-loop-i
invariant-loop-i l = (numbers l.entries ≡ through (entry_of l.t 0) l.i (numbers_beside l.fn.handles)) × (every (holds_handle l.t 0) (take l.i (numbers_beside l.fn.handles)) ≡ true)
