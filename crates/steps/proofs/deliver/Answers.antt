-- `steps::deliver` meets its contract: who may not act and a handle that names nothing are refused, else the list is delivered.
use Rattle.std.proofs.lemmas.Result.{IfOk-at_ok, IfErr-at_err}
use mathlib.Core.Path.{sym, ap, ◌∙◌}
use Rattle.rules.specs.Outcome.{refused}
use Rattle.rules.proofs.Needs.{halves, ends}
use Rattle.steps.proofs.Sends.{said_refused}
use Rattle.steps.proofs.Delivers.{none_of, some_of, deliver_not, deliver_unheld, deliver_held}
use Rattle.steps.proofs.deliver.Goals as goal

pub returns-in_err-pair : goal.returns-in_err-pair
returns-in_err-pair c =
    let may_not = IfErr-at_err _ c.in_err-pair.was c.new.ensures.refused in
    let both = halves (sym (deliver_not _ _ _ _ may_not.1)) in
    record { answer = said_refused _ _ c.from_residual.ensures.1 ∙ ap refused may_not.0 ∙ both.0; table = both.1 }

pub returns-in_err-l : goal.returns-in_err-l
returns-in_err-l c =
    let may = IfOk-at_ok _ c.in_ok-pair.was c.new.ensures.pair in
    let none = none_of _ _ _ _ c.ok_or.ensures.value c.in_err-l.was in
    let both = halves (sym (deliver_unheld _ _ _ _ may.2 (sym none.0 ∙ c.entry_of.ensures))) in
    record { answer = said_refused _ _ c.from_residual-in_err-l.ensures.1 ∙ none.1 ∙ both.0; table = both.1 }

pub returns : goal.returns
returns c =
    let may = IfOk-at_ok _ c.in_ok-pair.was c.new.ensures.pair in
    let held = some_of _ _ _ _ c.ok_or.ensures.value c.in_ok-l.was in
    let both = ends (sym (deliver_held _ _ _ _ _ _ _ may (sym held ∙ c.entry_of.ensures))) (c.deliver_list.ensures.answer, c.deliver_list.ensures.table) in
    record { answer = both.0; table = both.1 }
