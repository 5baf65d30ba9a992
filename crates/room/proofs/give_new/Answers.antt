-- `room::give_new` meets its contract: too long is 9, no room is 10, else the new entry is given.
use mathlib.Core.Path.{sym, ap, ◌∙◌}
use Rattle.rules.specs.Terms.{longest}
use Rattle.rules.specs.Outcome.{Outcome}
use Rattle.rules.specs.Meaning.{said}
use Rattle.rows.specs.Row.{seven}
use Rattle.room.proofs.Rooms.{room_long, room_full, new_given}
use Rattle.room.proofs.give_new.Goals as goal

pub returns-then-len-gt4095 : goal.returns-then-len-gt4095
unfolding said longest
returns-then-len-gt4095 c = let o = sym (room_long _ _ _ c.if-len-gt4095.true) in
    record { answer = ap (λ (x : Outcome). x.answer) o; table = ap (λ (x : Outcome). x.table) o }

pub returns-then-not-fits : goal.returns-then-not-fits
unfolding said longest
returns-then-not-fits c = let o = sym (room_full _ _ _ c.if-len-gt4095.false (sym c.has_room-fits.ensures ∙ c.if-not-fits.true)) in
    record { answer = ap (λ (x : Outcome). x.answer) o; table = ap (λ (x : Outcome). x.table) o }

pub returns : goal.returns
unfolding longest
returns c =
    let a = c.args in
    let room = sym c.has_room-fits.ensures ∙ c.if-not-fits.false in
    let o = new_given _ _ (seven a.kind a.count a.args a.len) _ _ c.if-len-gt4095.false room c.create-e.ensures.table c.create-e.ensures.entry in
    record { answer = c.give.ensures.answer ∙ ap (λ (x : Outcome). x.answer) o; table = c.give.ensures.table ∙ ap (λ (x : Outcome). x.table) o }
