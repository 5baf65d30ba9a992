-- `machine::perform` meets its contract: a set-up tests nothing, a request refuses with 1 or acts, by what the test says.
use mathlib.Core.Path.{refl, sym, ◌∙◌}
use Rattle.rules.specs.Meaning.{said}
use Rattle.machine.proofs.Acting.{known_formed, known_set_up, known_refused}
use Rattle.machine.proofs.perform.Goals as goal

pub returns-then-is_set_up : goal.returns-then-is_set_up
returns-then-is_set_up c =
    record {
      answer = rw (known_set_up _ _ (sym c.if-is_set_up.true ∙ c.is_set_up.ensures)) c.act.ensures.answer;
      table = rw (known_set_up _ _ (sym c.if-is_set_up.true ∙ c.is_set_up.ensures)) c.act.ensures.table;
    }

pub returns-then-not-well_formed : goal.returns-then-not-well_formed
unfolding said
returns-then-not-well_formed c =
    record {
      answer = rw (known_refused _ _ (sym c.well_formed-2.ensures ∙ c.if-not-well_formed.true) (sym c.if-is_set_up.false ∙ c.is_set_up.ensures))
          refl;
      table = rw (known_refused _ _ (sym c.well_formed-2.ensures ∙ c.if-not-well_formed.true) (sym c.if-is_set_up.false ∙ c.is_set_up.ensures))
          refl;
    }

pub returns : goal.returns
returns c =
    record {
      answer = rw (known_formed _ _ (sym c.well_formed-2.ensures ∙ c.if-not-well_formed.false)) c.act-2.ensures.answer;
      table = rw (known_formed _ _ (sym c.well_formed-2.ensures ∙ c.if-not-well_formed.false)) c.act-2.ensures.table;
    }
