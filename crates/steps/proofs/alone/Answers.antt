-- `steps::alone` meets its contract: its seven numbers are the rule's.
use mathlib.Core.Path.{refl}
use Rattle.rules.specs.Terms.{type_of, arguments_of, numbers_of}
use Rattle.rows.specs.Row.{seven}
use Rattle.steps.proofs.alone.Goals as goal

pub returns : goal.returns
unfolding seven numbers_of type_of arguments_of
returns c = refl
