-- `rows::write_row` meets its contract: seven numbers over a row of zeros.
use mathlib.Core.Path.{refl, sym}
use borrow.Author.Rules.{rules}
use Rattle.rows.specs.Row.{seven}
use Rattle.rows.proofs.Places.{filled_short, filled_long}
use Rattle.rows.proofs.write_row.Goals as goal

pub returns-then-row-lt7 : goal.returns-then-row-lt7
returns-then-row-lt7 c = sym (filled_short _ _ c.if-row-lt7.true)

pub returns : goal.returns
unfolding seven
returns c =
    let t = c.args.term in
    filled_long (seven t.kind t.count t.args t.len) c.args.row.now c.fill.new.self _ refl c.if-row-lt7.false (search rules) c.copy_from_slice.ensures.after
