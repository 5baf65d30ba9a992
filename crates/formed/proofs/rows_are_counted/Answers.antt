-- `formed::rows_are_counted` meets its contract: when e entries are counted the handles on all of them are below.
use Prim.Native.Nat.{◌+◌, ◌≤◌}
use native.Mathlib.Nat.{mul-le-mul_left}
use native.Mathlib.Omega.{arith}
use mathlib.Core.Path.{◌≡◌, refl, sym, ◌∙◌}
use Rattle.rules.specs.Choice.{all}
use Rattle.rules.specs.Table.{row_width, used}
use Rattle.rules.proofs.Logic.{found_false, found_true}
use Rattle.rules.proofs.Walks.{all_next}
use Rattle.rules.proofs.Formed.{knower_at, knower_from}
use Rattle.formed.specs.Counts.{handle_is_below_at}
use Rattle.formed.proofs.Counting.{row_fails}
use Rattle.formed.proofs.rows_are_counted.Goals as goal

pub loop-e-init : goal.loop-e-init
unfolding all
loop-e-init c = (λ k l. refl, c.requires.1)

pub row_is_counted-requires : goal.row_is_counted-requires
row_is_counted-requires c =
    let t = c.args.t.now in
    let l : c.loop-e.e + 1 ≤ used t = omega (arith, c.used-e-end.ensures) in
    (omega arith, omega (arith, c.requires.0, mul-le-mul_left (row_width t) l), c.loop-e.invariant.1)

pub returns-then-not-row_is_counted-clause-below : goal.returns-then-not-row_is_counted-clause-below
returns-then-not-row_is_counted-clause-below c =
    let l = rw c.used-e-end.ensures at c.loop-e-test.true in
    sym (row_fails _ c.loop-e.e l (found_false c.row_is_counted.ensures.below c.if-not-row_is_counted.true))

pub loop-e-preserved : goal.loop-e-preserved
loop-e-preserved c =
    let t = c.args.t.now in
    let row = found_true c.row_is_counted.ensures.below c.if-not-row_is_counted.false in (
      λ k known. rw (all_next, c.loop-e.invariant.0 k known) (knower_at t (handle_is_below_at t (c.loop-e.e + 1)) row k known),
      c.row_is_counted.ensures.counts,
    )

pub returns : goal.returns
returns c = let end : c.loop-e.e ≡ c.used-e-end.result = omega arith in
    let all-used = end ∙ c.used-e-end.ensures in
    record { below = sym (knower_from _ _ (λ k known. rw all-used at (c.loop-e.invariant.0 k known))); counts = λ q. rw all-used at c.loop-e.invariant.1 }
