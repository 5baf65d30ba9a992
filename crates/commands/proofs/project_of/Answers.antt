-- `commands::project_of` meets its contract: each way out is the rule's.
use mathlib.Core.Path.{refl}
use Rattle.rules.specs.Meaning.{said}
use Rattle.rules.proofs.Needs.{ends}
use Rattle.commands.proofs.Projecting.{of_no_list, past_end, element}
use Rattle.commands.proofs.project_of.Goals as goal

pub returns-then-kind : goal.returns-then-kind
unfolding said
returns-then-kind c =
    let both = ends (of_no_list _ _ _ _ c.kind.ensures c.if-kind.true) (refl, refl) in
    record { answer = both.0; table = both.1 }

pub returns-then-count-place : goal.returns-then-count-place
unfolding said
returns-then-count-place c =
    let both = ends (past_end _ _ _ _ c.kind.ensures c.if-kind.false _ c.count.ensures c.if-count-place.true) (refl, refl) in
    record { answer = both.0; table = both.1 }

pub returns : goal.returns
returns c =
    let both = ends
    (element _ _ _ _ c.kind.ensures c.if-kind.false _ c.count.ensures _ c.if-count-place.false c.word-element.ensures)
    (c.give.ensures.answer, c.give.ensures.table) in
    record { answer = both.0; table = both.1 }
