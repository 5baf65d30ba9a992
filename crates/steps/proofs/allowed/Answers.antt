-- `steps::allowed` meets its contract: 9 comes before 10.
use Rattle.std.proofs.lemmas.Result.{IfOk-at_ok}
use mathlib.Core.Path.{refl}
use Rattle.steps.proofs.allowed.Goals as goal

pub returns-then-not-has_room-clause-refused : goal.returns-then-not-has_room-clause-refused
returns-then-not-has_room-clause-refused c =
    rw ((IfOk-at_ok _ c.in_ok-short.was c.new.ensures.short).1, ← c.has_room.ensures, c.if-not-has_room.true) refl
