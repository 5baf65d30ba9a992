-- `steps::answer_message` meets its contract: each message is answered as the rule says.
use mathlib.Core.Path.{sym, ◌∙◌}
use Rattle.rules.specs.Meaning.{said, found_at}
use Rattle.rules.proofs.Needs.{halves, ends}
use Rattle.steps.proofs.Knowing.{opened_known}
use Rattle.steps.proofs.Delivers.{answers_first, answers_second, answers_third}
use Rattle.steps.proofs.answer_message.Goals as goal

pub returns-in-First : goal.returns-in-First
unfolding found_at
returns-in-First c =
    let known = opened_known _ _ _ _ _ _ c.opened-all.ensures c.count.ensures (c.from.ensures ∙ c.min-count.ensures) in
    let both = ends (sym (answers_first _ _ _ _ _ known _ _ c.in-First.is)) (c.send_named.ensures.answer, c.send_named.ensures.table) in
    record { answer = both.0; table = both.1 }

pub returns-in-Second : goal.returns-in-Second
returns-in-Second c =
    let known = opened_known _ _ _ _ _ _ c.opened-all.ensures c.count.ensures (c.from.ensures ∙ c.min-count.ensures) in
    let both = ends (sym (answers_second _ _ _ _ _ known _ _ c.in-Second.is)) (c.answer_second.ensures.answer, c.answer_second.ensures.table) in
    record { answer = both.0; table = both.1 }

pub returns-in-Third : goal.returns-in-Third
unfolding said
returns-in-Third c =
    let known = opened_known _ _ _ _ _ _ c.opened-all.ensures c.count.ensures (c.from.ensures ∙ c.min-count.ensures) in
    let both = halves (answers_third _ _ _ _ _ known _ _ c.in-Third.is c.grant_each.ensures) in
    record { answer = both.0; table = both.1 }
