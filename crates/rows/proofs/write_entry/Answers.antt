-- `rows::write_entry` meets its contract: the entry's row is lent as a middle part, filled, and back.
use Prim.Native.Nat.{◌<◌}
use native.Mathlib.Omega.{arith}
use mathlib.Core.Path.{sym}
use Rattle.rules.proofs.Words.{most_high}
use Rattle.rows.proofs.Places.{place_low, row_filled, row_outside}
use Rattle.rows.proofs.write_entry.Goals as goal

pub overflow_mul-from : goal.overflow_mul-from
overflow_mul-from c = let e = c.args.e.0 in
    let t = c.args.t.now in
    let l : e < 65536 = omega arith in
    omega (arith, most_high t, place_low _ _ e c.row_width-width.ensures l)

pub overflow_add-to : goal.overflow_add-to
overflow_add-to c = let e = c.args.e.0 in
    let t = c.args.t.now in
    let l : e < 65536 = omega arith in
    omega (arith, most_high t, place_low _ _ e c.row_width-width.ensures l)

pub returns-then-to-t : goal.returns-then-to-t
returns-then-to-t c = row_filled _ _ _ c.row_width-width.ensures _ _ (omega arith) c.write_row.ensures

pub returns-else-to-t : goal.returns-else-to-t
returns-else-to-t c = sym (row_outside _ _ _ c.row_width-width.ensures _ c.if-to-t.false)
