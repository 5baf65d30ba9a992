-- `steps::nonce` meets its contract: its seven numbers are the rule's.
use mathlib.Core.Path.{refl}
use Rattle.rules.specs.Terms.{type_of, arguments_of, nonce_length, numbers_of}
use Rattle.rows.specs.Row.{seven}
use Rattle.steps.proofs.nonce.Goals as goal

pub returns : goal.returns
unfolding seven numbers_of type_of arguments_of nonce_length
returns c = refl
