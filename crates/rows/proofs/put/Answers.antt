-- `rows::put` meets its contract: a row starts at no large number, and past the end of the run the rule writes nothing.
use Prim.Native.Nat.{◌<◌}
use native.Mathlib.Omega.{arith}
use mathlib.Core.Path.{sym}
use Rattle.rules.specs.Table.{put}
use Rattle.rules.proofs.Words.{put_past}
use Rattle.rows.proofs.Places.{place_low}
use Rattle.rows.proofs.put.Goals as goal

pub overflow_mul-at : goal.overflow_mul-at
overflow_mul-at c = let e = c.args.e.0 in
    let l : e < 65536 = omega arith in
    omega (arith, place_low _ _ e c.row_width-width.ensures l)

pub overflow_add-at : goal.overflow_add-at
overflow_add-at c = let e = c.args.e.0 in
    let l : e < 65536 = omega arith in
    omega (arith, place_low _ _ e c.row_width-width.ensures l)

pub returns-then-at-t : goal.returns-then-at-t
unfolding put
returns-then-at-t c = rw c.row_width-width.ensures

pub returns-else-at-t : goal.returns-else-at-t
returns-else-at-t c = sym (put_past _ _ _ _ (rw c.row_width-width.ensures at c.if-at-t.false))
