-- `formed::row_is_counted` meets its contract: when knower k is reached the handles of all before it are counted, and the flag says whether
-- they are below.
use Prim.Native.Nat.{◌+◌, ◌≤◌}
use native.Mathlib.Omega.{arith}
use mathlib.Core.Path.{refl}
use Rattle.rules.specs.Handles.{holds}
use Rattle.rules.specs.Table.{most}
use Rattle.rules.proofs.Words.{most_high}
use Rattle.rules.proofs.Walks.{count_le}
use Rattle.formed.proofs.Counting.{not_leb, turned, passed_next, passed_all, below_is, held_is, one_at_most}
use Rattle.formed.proofs.row_is_counted.Goals as goal

pub bounds-held-k : goal.bounds-held-k
bounds-held-k c = omega (arith, c.from-handles.ensures, c.most.ensures, most_high c.args.t.now)

pub overflow_add-held : goal.overflow_add-held
overflow_add-held c =
    let known : c.loop-k.k ≤ most c.args.t.now = omega (arith, c.from-handles.ensures, c.most.ensures) in
    let one : c.from-in-loop-k.result ≤ 1 = rw c.from-in-loop-k.ensures (one_at_most _) in
    omega (arith, c.loop-k.invariant.1.left c.loop-k.k (omega arith) known, count_le (holds c.args.t.now c.loop-k.k) c.args.e, c.requires.0)

pub bounds-held-k-in-loop-k : goal.bounds-held-k-in-loop-k
bounds-held-k-in-loop-k c = omega (arith, c.from-handles.ensures, c.most.ensures, most_high c.args.t.now)

pub loop-k-preserved : goal.loop-k-preserved
loop-k-preserved c =
    let t = c.args.t.now in
    let known : c.loop-k.k ≤ most t = omega (arith, c.from-handles.ensures, c.most.ensures) in
    let isWidth = c.row_width.ensures in
    let below = below_is t c.loop-k.k known _ (c.args.e + 1) _ isWidth refl in
    let one = rw (← held_is t c.loop-k.k known _ (c.args.e + 1) _ isWidth refl) at (rw c.from.ensures at c.from-in-loop-k.ensures) in (
      rw (not_leb, c.from.ensures) (rw below at (passed_next _ _ c.loop-k.below _ refl c.loop-k.invariant.0)),
      turned t c.args.e c.loop-k.k _ _ known one c.loop-k.invariant.1,
    )

pub returns-clause-below : goal.returns-clause-below
returns-clause-below c = passed_all _ _ c.loop-k.k (omega (arith, c.from-handles.ensures, c.most.ensures)) c.loop-k.invariant.0
