-- `steps::named` meets its contract: three elements where something is repeated, else two.
use mathlib.Core.Path.{refl}
use Rattle.rules.specs.Terms.{type_of, arguments_of, numbers_of}
use Rattle.rules.specs.Meaning.{found_at}
use Rattle.rows.specs.Row.{seven}
use Rattle.steps.proofs.named.Goals as goal
use Rattle.steps.proofs.named.Goals.{in-Some, in-None}

pub returns : goal.returns
unfolding found_at seven numbers_of type_of arguments_of
returns c =
    elim c.match-repeated.branch [
      | in-Some w ↦ rw (w.count-is, w.in-Some.is) refl
      | in-None w ↦ rw (w.count-is, w.in-None.is) refl
    ]
