-- `bench_calls::bench_play` meets its contract: the place after the lines says whether they fit, and their number is below the result's bound.
use native.Mathlib.Omega.{arith}
use borrow.Author.Rules.{rules}
use Rattle.rules.specs.Player.{most_bytes}
use Rattle.text.proofs.Putting.{put_length}
use Rattle.bench_calls.proofs.Calling.{fitting, over}
use Rattle.bench_calls.proofs.bench_play.Goals as goal

pub overflow_cast-result : goal.overflow_cast-result
unfolding most_bytes
overflow_cast-result c = omega (arith, c.play-end.ensures.put.place, c.play-end.ensures.small)

pub returns-then-end-out : goal.returns-then-end-out
returns-then-end-out c =
    let w = fitting _ c.play-end.ensures.put (omega (arith, put_length c.play-end.ensures.put, c.if-end-out.true)) in
    record { value = w.0; output = w.1; small = c.play-end.ensures.small }

pub returns : goal.returns
returns c =
    let w = over _ c.play-end.ensures.put (omega (arith, put_length c.play-end.ensures.put, c.if-end-out.false)) (search rules) in
    record { value = w.0; output = w.1; small = c.play-end.ensures.small }
