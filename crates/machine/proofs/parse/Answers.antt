-- `machine::parse` meets its contract: refused with 1 unless the table is well formed, and else the command's.
use mathlib.Core.Path.{sym, ap, ◌∙◌}
use Rattle.rules.specs.Outcome.{Outcome}
use Rattle.rules.specs.Machine.{act}
use Rattle.rules.specs.Meaning.{said}
use Rattle.rules.proofs.Keeps.{not_formed, is_formed}
use Rattle.machine.proofs.parse.Goals as goal

pub returns-then-not-well_formed : goal.returns-then-not-well_formed
unfolding said
returns-then-not-well_formed c = sym (ap (λ (o : Outcome). o.answer) (not_formed _ _ (sym c.well_formed-2.ensures ∙ c.if-not-well_formed.true)))

pub returns : goal.returns
unfolding act
returns c =
    c.parse.ensures ∙ sym (ap (λ (o : Outcome). o.answer) (is_formed _ _ (sym c.well_formed-2.ensures ∙ c.if-not-well_formed.false)))
