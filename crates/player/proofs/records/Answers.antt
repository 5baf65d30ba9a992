-- `player::records` meets its contract: after each record the lines that are done and those that are left are all of them.
use native.Mathlib.Omega.{arith}
use mathlib.Core.Path.{refl, sym, ◌∙◌}
use mathlib.Core.List.{[], ◌++◌}
use Rattle.rules.specs.Meaning.{said}
use Rattle.text.proofs.Putting.{put_none, put_as, then}
use Rattle.player.proofs.Knowing.{stays_known}
use Rattle.player.proofs.Playing.{begin, finish, at_end, at_malformed, onwards, misplaced, next_record}
use Rattle.player.proofs.records.Goals as goal

pub loop-at-init : goal.loop-at-init
loop-at-init c = ([], put_none _, begin _ _, sym c.requires, omega arith, refl)

pub returns-then-not-stands_right : goal.returns-then-not-stands_right
unfolding said
returns-then-not-stands_right c = let l = c.loop-at.invariant in
    let q = misplaced c.loop-at-test.true l.2 _ c.read_record.ensures.read c.in-Record.is (sym c.if-not-stands_right.true ∙ c.stands_right.ensures) in
    put_as q (then l.1 c.line.ensures)

pub perform_known-a-requires : goal.perform_known-a-requires
perform_known-a-requires c = c.loop-at.invariant.3

pub overflow_add-place : goal.overflow_add-place
overflow_add-place c = omega (arith, c.loop-at.invariant.4, c.loop-at-test.true)

pub loop-at-smaller : goal.loop-at-smaller
loop-at-smaller c = omega (arith, onwards c.loop-at-test.true c.loop-at.invariant.2 _ c.read_record.ensures.read c.in-Record.is, c.loop-at-test.true)

pub loop-at-preserved : goal.loop-at-preserved
loop-at-preserved c = let l = c.loop-at.invariant in
    let h = c.loop-at-test.true in
    let e = c.read_record.ensures.read in
    let p = c.in-Record.is in
    let on = onwards h l.2 _ e p in
    let w = next_record h l.2 _ e p (sym c.if-not-stands_right.false ∙ c.stands_right.ensures) in (
      l.0 ++ _,
      then l.1 c.line-end.ensures,
      rw (c.perform_known-a.ensures.answer, c.perform_known-a.ensures.table) w,
      rw c.perform_known-a.ensures.table (c.formed_after-formed.ensures ∙ rw (l.3, c.perform_known-a.ensures.answer) (stays_known _ _)),
      omega (arith, on, l.4),
      omega (arith, c.perform_known-a.auto, l.5),
    )

pub returns-in-End : goal.returns-in-End
returns-in-End c = let l = c.loop-at.invariant in
    let q = at_end c.loop-at-test.true l.2 _ c.read_record.ensures.read c.in-End.is in
    put_as q l.1

pub returns-in-Malformed : goal.returns-in-Malformed
unfolding said
returns-in-Malformed c = let l = c.loop-at.invariant in
    let q = at_malformed c.loop-at-test.true l.2 _ c.read_record.ensures.read c.in-Malformed.is in
    put_as q (then l.1 c.line-in-Malformed.ensures)

pub returns : goal.returns
returns c = let l = c.loop-at.invariant in
    let q = finish c.loop-at-test.false l.2 in
    put_as q l.1
