-- `steps::answer_second` meets its contract: it is refused as the rule says, else it goes the rule's way.
use Rattle.std.proofs.lemmas.Result.{IfOk-at_ok, IfErr-at_err}
use mathlib.Core.Path.{sym, ◌∙◌}
use Rattle.rules.proofs.Needs.{halves, ends}
use Rattle.steps.proofs.Sends.{said_refused, alone_length_lem, second_not, second_goes}
use Rattle.steps.proofs.answer_second.Goals as goal

pub returns-in_err-short : goal.returns-in_err-short
returns-in_err-short c =
    let len = alone_length_lem _ _ _ _ c.length.ensures c.from-len.ensures in
    let refusal = IfErr-at_err _ c.in_err-short.was c.allowed.ensures.refused in
    let both = halves (sym (second_not _ _ _ _ _ _ _ _ len c.find_list-found.ensures c.missing.ensures _ refusal)) in
    record { answer = said_refused _ _ c.from_residual.ensures.1 ∙ both.0; table = both.1 }

pub returns : goal.returns
returns c =
    let len = alone_length_lem _ _ _ _ c.length.ensures c.from-len.ensures in
    let short = IfOk-at_ok _ c.in_ok-short.was c.allowed.ensures.short in
    let both = ends (sym (second_goes _ _ _ _ _ _ _ _ len c.find_list-found.ensures c.missing.ensures _ _ _ _ short c.alone.ensures c.create_unless-inner.ensures.table c.create_unless-inner.ensures.entry)) (c.send.ensures.answer, c.send.ensures.table) in
    record { answer = both.0; table = both.1 }
