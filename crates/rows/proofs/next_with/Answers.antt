-- `rows::next_with` meets its contract: a row always starts at the place, and none above e up to that row has both words.
use Prim.Native.Nat.{ℕ, ◌*◌, ◌<◌}
use native.Mathlib.Omega.{arith}
use mathlib.Core.Path.{◌≡◌, ap}
use Rattle.rules.specs.Table.{Table, used}
use Rattle.rules.specs.Meaning.{found_at}
use Rattle.rows.proofs.Places.{place_low}
use Rattle.rows.proofs.Search.{reached_first, reached_more, more_fits, found_low, reached_found, reached_last}
use Rattle.rows.proofs.next_with.Goals as goal

-- where the last used row starts, by what `used` gave
last_is : (t : Table) (m u : ℕ) → u ≡ used t → m * u ≡ m * used t
last_is t m u q = ap (λ (x : ℕ). m * x) q

pub overflow_mul-last : goal.overflow_mul-last
overflow_mul-last c = let l : c.used.result < 65536 = omega arith in
    omega (arith, place_low _ _ c.used.result c.row_width-width.ensures l)

pub overflow_add-last : goal.overflow_add-last
overflow_add-last c =
    let l : c.used.result < 65536 = omega arith in
    omega (arith, place_low _ _ c.used.result c.row_width-width.ensures l)

pub returns-then-t-last : goal.returns-then-t-last
returns-then-t-last c = c.next_by_word.ensures

pub overflow_mul-width : goal.overflow_mul-width
overflow_mul-width c =
    let row = c.args.e.0 in
    let l : row < 65536 = omega arith in
    omega (arith, place_low _ _ row c.row_width-width.ensures l)

pub pass_fours-at-requires : goal.pass_fours-at-requires
pass_fours-at-requires c =
    let row = c.args.e.0 in
    let l : row < 65536 = omega arith in
    (omega (arith, place_low _ _ row c.row_width-width.ensures l), omega (arith, c.max.ensures))

pub loop-at-init : goal.loop-at-init
loop-at-init c = c.pass_fours-at.ensures.passes _ _ _ (reached_first _ _ _ _ _ _ _ c.row_width-width.ensures)

pub overflow_add-at : goal.overflow_add-at
overflow_add-at c =
    let fits = more_fits _ _ _ _ _ _ _ _ c.row_width-width.ensures c.loop-at.invariant _ (last_is _ _ _ c.used.ensures) c.loop-at-test.true in
    omega (arith, fits)

pub has_both_at-requires : goal.has_both_at-requires
has_both_at-requires c =
    let fits = more_fits _ _ _ _ _ _ _ _ c.row_width-width.ensures c.loop-at.invariant _ (last_is _ _ _ c.used.ensures) c.loop-at-test.true in
    (omega (arith, fits, c.max.ensures), omega (arith, fits, c.max.ensures))

pub nonzero_div-result : goal.nonzero_div-result
nonzero_div-result c = omega (arith, c.row_width-width.ensures)

pub overflow_cast-result : goal.overflow_cast-result
overflow_cast-result c =
    let low = found_low _ _ _ _ _ _ _ _ c.row_width-width.ensures c.loop-at.invariant _ (last_is _ _ _ c.used.ensures) c.loop-at-test.true in
    omega (arith, low, c.used.ensures)

pub returns-then-has_both_at : goal.returns-then-has_both_at
unfolding found_at
returns-then-has_both_at c =
    reached_found _ _ _ _ _ _ _ _ c.row_width-width.ensures c.loop-at.invariant _ c.has_both_at.ensures _ (last_is _ _ _ c.used.ensures) c.loop-at-test.true c.if-has_both_at.true

pub pass_fours-at-requires-in-loop-at : goal.pass_fours-at-requires-in-loop-at
pass_fours-at-requires-in-loop-at c =
    let fits = more_fits _ _ _ _ _ _ _ _ c.row_width-width.ensures c.loop-at.invariant _ (last_is _ _ _ c.used.ensures) c.loop-at-test.true in
    (omega (arith, fits), omega (arith, c.max.ensures))

pub loop-at-smaller : goal.loop-at-smaller
loop-at-smaller c = omega (arith, c.pass_fours-at-in-loop-at.ensures.further, c.row_width-width.ensures)

pub loop-at-preserved : goal.loop-at-preserved
loop-at-preserved c =
    let width = c.row_width-width.ensures in
    c.pass_fours-at-in-loop-at.ensures.passes _ _ _
    (reached_more _ _ _ _ _ _ _ _ width c.loop-at.invariant _ c.has_both_at.ensures c.if-has_both_at.false)

pub returns : goal.returns
unfolding found_at
returns c =
    reached_last _ _ _ _ _ _ _ _ c.row_width-width.ensures c.loop-at.invariant _ (last_is _ _ _ c.used.ensures) c.loop-at-test.false
