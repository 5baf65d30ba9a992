-- `bench::main` ends without a trap: the parts that it lends lie within its arrays, since the output holds the lines of any file.
use Prim.Native.Nat.{◌≤◌}
use native.Mathlib.Omega.{arith}
use mathlib.Core.Path.{sym}
use lib.ListN.{length}
use lib.Seq.{length-take-le}
use Rattle.rules.specs.Player.{most_bytes}
use Rattle.bench_calls.proofs.Calling.{always_fits}
use Rattle.bench.proofs.main.Goals as goal

pub slice_bounds-out-end : goal.slice_bounds-out-end
unfolding most_bytes
slice_bounds-out-end c =
    let o : 677215 ≤ length c.output-out.result = omega (arith, c.output-out.ensures) in
    let f = always_fits _ _ _ c.bench_play-end.ensures.value c.bench_play-end.ensures.small o in
    omega (arith, f, o, c.bench_play-end.auto.out)

pub slice_bounds-write_all-end : goal.slice_bounds-write_all-end
unfolding most_bytes
slice_bounds-write_all-end c =
    let o : 677215 ≤ length c.output-out.result = omega (arith, c.output-out.ensures) in
    let f = always_fits _ _ _ c.bench_play-end.ensures.value c.bench_play-end.ensures.small o in
    sym (length-take-le _ _ (omega (arith, f, o, c.bench_play-end.auto.out)))
