-- `player::perform_known` meets its contract: a set-up tests nothing, a request refuses with 1 or acts, by what is known.
use mathlib.Core.Path.{◌≡◌, refl, sym, ◌∙◌}
use Rattle.rules.specs.Machine.{perform, untested}
use Rattle.rules.specs.Meaning.{said, asked}
use Rattle.machine.proofs.Acting.{known_formed, known_set_up, known_refused}
use Rattle.player.proofs.perform_known.Goals as goal
use Rattle.player.proofs.perform_known.Goals.{then-formed-via-then-formed, then-formed-via-else-formed+then-is_set_up}

pub returns-then-formed : goal.returns-then-formed
returns-then-formed c =
    let acts : perform (asked c.args.c) c.args.t.now ≡ untested (asked c.args.c) c.args.t.now =
    elim c.then-formed.branch [
      | then-formed-via-then-formed w ↦ known_formed _ _ (sym c.requires ∙ w.if-formed.true)
      | then-formed-via-else-formed+then-is_set_up w ↦ known_set_up _ _ (sym w.if-is_set_up.true ∙ w.is_set_up.ensures)
    ]
    in
    record { answer = rw acts c.act.ensures.answer; table = rw acts c.act.ensures.table }

pub returns : goal.returns
unfolding said
returns c =
    let refuses = known_refused _ _ (sym c.requires ∙ c.if-formed.false) (sym c.if-is_set_up.false ∙ c.is_set_up.ensures) in
    record { answer = rw refuses refl; table = rw refuses refl }
