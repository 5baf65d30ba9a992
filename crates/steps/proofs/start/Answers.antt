-- `steps::start` meets its contract: who may not act is refused, else a message with a name is sent.
use Rattle.std.proofs.lemmas.Result.{IfOk-at_ok, IfErr-at_err}
use mathlib.Core.Path.{sym, ap, ◌∙◌}
use Rattle.rules.specs.Meaning.{found_at}
use Rattle.rules.specs.Outcome.{refused}
use Rattle.rules.proofs.Needs.{halves, ends}
use Rattle.steps.proofs.Sends.{said_refused}
use Rattle.steps.proofs.Delivers.{start_not, start_goes}
use Rattle.steps.proofs.start.Goals as goal

pub returns-in_err-pair : goal.returns-in_err-pair
returns-in_err-pair c =
    let may_not = IfErr-at_err _ c.in_err-pair.was c.new.ensures.refused in
    let both = halves (sym (start_not _ _ _ may_not.1)) in
    record { answer = said_refused _ _ c.from_residual.ensures.1 ∙ ap refused may_not.0 ∙ both.0; table = both.1 }

pub returns : goal.returns
unfolding found_at
returns c =
    let may = IfOk-at_ok _ c.in_ok-pair.was c.new.ensures.pair in
    let both = ends (sym (start_goes _ _ _ _ _ may)) (c.send_named.ensures.answer, c.send_named.ensures.table) in
    record { answer = both.0; table = both.1 }
