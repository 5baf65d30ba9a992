-- `formed::all_handles_fit` meets its contract: the handles are counted, and when knower k is reached those of all below it fit.
use Prim.Native.Nat.{◌≤◌}
use native.Mathlib.Omega.{arith}
use mathlib.Core.Path.{sym}
use borrow.Author.Count.{below_more}
use Rattle.rules.specs.Table.{most}
use Rattle.rules.specs.Handles.{held}
use Rattle.rules.proofs.Logic.{found_false, found_true}
use Rattle.rules.proofs.Words.{most_high}
use Rattle.rules.proofs.Formed.{knower_at, knower_from, knower_fails}
use Rattle.formed.proofs.Counting.{none_counted, rows_fail}
use Rattle.formed.proofs.all_handles_fit.Goals as goal

pub rows_are_counted-requires : goal.rows_are_counted-requires
rows_are_counted-requires c = (c.requires, none_counted _)

pub returns-then-not-rows_are_counted : goal.returns-then-not-rows_are_counted
returns-then-not-rows_are_counted c = sym (rows_fail _ (found_false c.rows_are_counted.ensures.below c.if-not-rows_are_counted.true))

pub bounds-held-from : goal.bounds-held-from
bounds-held-from c = omega (arith, c.most-highest.ensures, c.from.ensures, most_high c.args.t.now)

pub handles_fit-requires : goal.handles_fit-requires
unfolding held
handles_fit-requires c =
    let known : c.loop-k.k ≤ most c.args.t.now = omega (arith, c.most-highest.ensures) in (
      rw c.from.ensures ((c.rows_are_counted.ensures.counts c.if-not-rows_are_counted.false).at _ known),
      knower_at _ _ (found_true c.rows_are_counted.ensures.below c.if-not-rows_are_counted.false) _ known,
    )

pub returns-then-not-handles_fit : goal.returns-then-not-handles_fit
returns-then-not-handles_fit c =
    let low : c.loop-k.k ≤ most c.args.t.now = omega (arith, c.most-highest.ensures) in
    sym (knower_fails _ _ c.loop-k.k low (found_false c.handles_fit.ensures c.if-not-handles_fit.true))

pub returns-else-not-handles_fit : goal.returns-else-not-handles_fit
returns-else-not-handles_fit c =
    let all = below_more _ _ c.loop-k.invariant (found_true c.handles_fit.ensures c.if-not-handles_fit.false) in
    sym (knower_from _ _ (λ j l. all j (omega (arith, c.most-highest.ensures))))
