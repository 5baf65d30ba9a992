-- `rows::word` meets its contract: a row starts at no large number, and past the end of the run both read 0.
use Rattle.std.specs.Option.{unwrap_or}
use Prim.Native.Nat.{◌+◌, ◌*◌, ◌<◌}
use native.Mathlib.Omega.{arith}
use mathlib.Core.Path.{ap, ◌∙◌}
use lib.ListN.{get_or}
use Rattle.rules.specs.Table.{word}
use Rattle.rows.proofs.Places.{place_low}
use Rattle.rows.proofs.word.Goals as goal

pub overflow_mul-at : goal.overflow_mul-at
overflow_mul-at c = let e = c.args.e.0 in
    let l : e < 65536 = omega arith in
    omega (arith, place_low _ _ e c.row_width-width.ensures l)

pub overflow_add-at : goal.overflow_add-at
overflow_add-at c = let e = c.args.e.0 in
    let l : e < 65536 = omega arith in
    omega (arith, place_low _ _ e c.row_width-width.ensures l)

pub returns : goal.returns
unfolding word
returns c =
    c.unwrap_or.ensures ∙ ap (λ o. unwrap_or o 0) c.copied.ensures ∙ c.get.ensures.lookup.4 (omega arith) 0
    ∙ ap (λ m. get_or c.args.t.now (m * c.args.e.0 + c.args.k) 0) c.row_width-width.ensures
