-- `commands::parse` meets its contract: the three numbers are the rule's.
use mathlib.Core.Path.{sym, ap, ◌∙◌}
use Rattle.rules.specs.Outcome.{Outcome}
use Rattle.rules.specs.Meaning.{said}
use Rattle.commands.proofs.Ways.{held, held_at, unheld, went_on, stopped, refusal}
use Rattle.commands.proofs.Parsing.{parse_unheld, parse_held}
use Rattle.commands.proofs.parse.Goals as goal

pub returns-in_err-e : goal.returns-in_err-e
returns-in_err-e c =
    let none = stopped _ _ _ c.ok_or.ensures.value _ c.in_err-e.was in
    refusal _ _ _ c.ok_or.ensures.value _ c.in_err-e.was c.from_residual.result c.from_residual.ensures.1
    ∙ sym (ap (λ (o : Outcome). o.answer) (parse_unheld _ _ (unheld _ _ _ c.entry_of.ensures none)))

pub returns : goal.returns
unfolding said
returns c =
    let p = c.entry_of.ensures in
    let some = went_on _ _ _ c.ok_or.ensures.value _ c.in_ok-e.was in
    sym (ap (λ (o : Outcome). o.answer)
    (parse_held _ _ _ _ _ _ (held _ _ _ p _ some) (held_at _ _ _ p _ some) c.kind-kind.ensures c.value_of-value.ensures c.length.ensures))
