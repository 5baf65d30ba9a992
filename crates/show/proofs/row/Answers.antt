-- `show::row` is safe: a row's places are few.
use native.Mathlib.Omega.{arith}
use Rattle.rules.proofs.Words.{most_high}
use Rattle.show.proofs.row.Goals as goal

pub overflow_add-width : goal.overflow_add-width
overflow_add-width g c = omega (arith, c.most-width.ensures, most_high c.args.t.now)
