-- `commands::project` meets its contract: each way out is the rule's.
use mathlib.Core.Path.{refl, sym, ◌∙◌}
use Rattle.rules.specs.Meaning.{said}
use Rattle.rules.proofs.Needs.{ends}
use Rattle.commands.proofs.Ways.{held, held_at, unheld, went_on, stopped, refusal}
use Rattle.commands.proofs.Projecting.{no_place, place_unheld, place_held, place_small}
use Rattle.commands.proofs.project.Goals as goal

pub returns-then-not-is_place : goal.returns-then-not-is_place
unfolding said
returns-then-not-is_place c =
    let both = ends (no_place _ _ _ (sym c.is_place.ensures ∙ c.if-not-is_place.true)) (refl, refl) in
    record { answer = both.0; table = both.1 }

pub returns-in_err-e : goal.returns-in_err-e
returns-in_err-e c =
    let none = stopped _ _ _ c.ok_or.ensures.value _ c.in_err-e.was in
    let answer = refusal _ _ _ c.ok_or.ensures.value _ c.in_err-e.was c.from_residual.result c.from_residual.ensures.1 in
    let both = ends (place_unheld _ _ _ (sym c.is_place.ensures ∙ c.if-not-is_place.false) (unheld _ _ _ c.entry_of.ensures none)) (answer, refl) in
    record { answer = both.0; table = both.1 }

pub project_of-requires : goal.project_of-requires
project_of-requires c =
    place_small _ (sym c.is_place.ensures ∙ c.if-not-is_place.false)

pub returns : goal.returns
returns c =
    let some = went_on _ _ _ c.ok_or.ensures.value _ c.in_ok-e.was in
    let both = ends
    (place_held _ _ _ _ (sym c.is_place.ensures ∙ c.if-not-is_place.false) (held _ _ _ c.entry_of.ensures _ some)
    (held_at _ _ _ c.entry_of.ensures _ some))
    (c.project_of.ensures.answer, c.project_of.ensures.table) in
    record { answer = both.0; table = both.1 }
