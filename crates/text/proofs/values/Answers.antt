-- `text::values` meets its contract: each value is written before the others, and the line feed after the last.
use Rattle.std.proofs.lemmas.List.{at_drop_more, at_drop_all}
use Rattle.rules.specs.Player.{spaced}
use Rattle.text.proofs.Putting.{feed_put, values_put}
use Rattle.text.proofs.values.Goals as goal

pub loop-v-preserved : goal.loop-v-preserved
loop-v-preserved c d k p =
    let l = c.loop-v in
    l.invariant d k (rw (at_drop_more spaced c.args.vs.now l.v-index 0 c.loop-v-test.true) (values_put _ _ c.value-end.ensures p))

pub returns : goal.returns
returns c =
    let l = c.loop-v in
    l.invariant _ _ (rw (at_drop_all spaced c.args.vs.now l.v-index c.loop-v-test.false) (feed_put c.byte.ensures))
