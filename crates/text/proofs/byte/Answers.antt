-- `text::byte` meets its contract: within the output it is one store, and past the end the rule writes nothing.
use native.Mathlib.Omega.{arith}
use mathlib.Core.Path.{refl, sym}
use lib.Seq.{set_out}
use Rattle.text.proofs.Putting.{put_one}
use Rattle.text.proofs.byte.Goals as goal

pub returns-then-at-out : goal.returns-then-at-out
returns-then-at-out c = put_one _ _ _ (omega arith) refl

pub returns-else-at-out : goal.returns-else-at-out
returns-else-at-out c = record { written = sym (set_out _ _ _ c.if-at-out.false); place = omega arith }
