-- `steps::Pair::new` meets its contract: the four tests are the rule's, and a participant's key has a small number.
use Rattle.std.proofs.Common.{rules}
use mathlib.Core.Path.{sym, ◌∙◌}
use Rattle.rules.specs.Steps.{may_act}
use Rattle.steps.proofs.Delivers.{participant_low}
use Rattle.steps.proofs.Pair.new.Goals as goal

pub invariant_of-result : goal.invariant_of-result
invariant_of-result c =
    record { fits = participant_low _ _ (sym c.is_participant-then-is_participant.ensures ∙ c.if-is_participant-2.true) }

pub returns-then-honest : goal.returns-then-honest
unfolding may_act
returns-then-honest c = search rules

pub returns-else-is_participant : goal.returns-else-is_participant
unfolding may_act
returns-else-is_participant c = search rules
