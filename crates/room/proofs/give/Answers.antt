-- `room::give` meets its contract: the grant and then the handle, as in the rule.
use mathlib.Core.Path.{ap}
use Rattle.rules.specs.Outcome.{Outcome}
use Rattle.rules.specs.Meaning.{said}
use Rattle.room.proofs.Rooms.{given}
use Rattle.room.proofs.give.Goals as goal

pub returns : goal.returns
unfolding said
returns c = let o = given _ _ _ _ c.grant.ensures c.handle.ensures in
    record { answer = ap (λ (x : Outcome). x.answer) o; table = ap (λ (x : Outcome). x.table) o }
