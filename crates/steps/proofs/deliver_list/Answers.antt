-- `steps::deliver_list` meets its contract: what is no list is refused, what is not taken is dropped, the rest answered.
use mathlib.Core.Path.{sym, ◌∙◌}
use Rattle.rules.specs.Meaning.{said}
use Rattle.rules.proofs.Needs.{halves, ends}
use Rattle.messages.proofs.Read.{reads_none, reads_taken}
use Rattle.steps.proofs.Delivers.{list_not, list_none, list_read}
use Rattle.steps.proofs.deliver_list.Goals as goal

pub returns-then-kind : goal.returns-then-kind
unfolding said
returns-then-kind c =
    let both = halves (sym (list_not _ _ _ _ (λ q. c.if-kind.true (c.kind.ensures ∙ q)))) in
    record { answer = both.0; table = both.1 }

pub returns-in_default : goal.returns-in_default
unfolding said
returns-in_default c =
    let listed = sym c.kind.ensures ∙ c.if-kind.false in
    let none = sym c.read_message.ensures ∙ reads_none _ c.in_default.is in
    let both = halves (list_none _ _ _ _ listed none) in
    record { answer = both.0; table = both.1 }

pub returns : goal.returns
returns c =
    let listed = sym c.kind.ensures ∙ c.if-kind.false in
    let taken = sym c.read_message.ensures ∙ reads_taken _ _ c.in-Some.is in
    let both = ends (sym (list_read _ _ _ _ _ listed taken)) (c.answer_message.ensures.answer, c.answer_message.ensures.table) in
    record { answer = both.0; table = both.1 }
