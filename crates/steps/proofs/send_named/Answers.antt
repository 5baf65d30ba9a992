-- `steps::send_named` meets its contract: it is refused as the rule says, else made and sent, entry by entry.
use Rattle.std.proofs.lemmas.Result.{IfOk-at_ok, IfErr-at_err}
use mathlib.Core.Path.{sym, ◌∙◌}
use Rattle.rules.proofs.Needs.{halves, ends}
use Rattle.steps.proofs.Sends.{said_refused, named_not, named_there, named_goes}
use Rattle.steps.proofs.send_named.Goals as goal

pub returns-in_err-short : goal.returns-in_err-short
returns-in_err-short c =
    let refusal = IfErr-at_err _ c.in_err-short.was c.allowed.ensures.refused in
    let both = halves (sym (named_not _ _ _ _ _ _ _ c.named_length-len.ensures c.find_datum-name.ensures c.missing.ensures _ refusal)) in
    record { answer = said_refused _ _ c.from_residual.ensures.1 ∙ both.0; table = both.1 }

pub returns : goal.returns
returns c =
    let short = IfOk-at_ok _ c.in_ok-short.was c.allowed.ensures.short in
    let there = named_there _ _ _ _ _ _ _ c.named_length-len.ensures c.find_datum-name.ensures c.missing.ensures short.1 in
    let goes = named_goes _ _ _ _ _ _ _ _ _ _ _ _ _ _ _ _ (short.0 ∙ c.named_length-len.ensures) c.find_datum-name.ensures c.nonce.ensures c.create-n.ensures.table c.create-n.ensures.entry c.datum.ensures c.create_unless-d.ensures.table c.create_unless-d.ensures.entry c.named.ensures c.create-inner.ensures.table c.create-inner.ensures.entry in
    let both = ends (there ∙ sym goes) (c.send.ensures.answer, c.send.ensures.table) in
    record { answer = both.0; table = both.1 }
