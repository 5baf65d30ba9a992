-- `text::cut` meets its contract: each byte is written after those before it.
use Rattle.text.proofs.Putting.{more}
use Rattle.text.proofs.cut.Goals as goal

pub loop-b-preserved : goal.loop-b-preserved
loop-b-preserved c = more _ _ c.loop-b-test.true c.loop-b.invariant c.byte-end.ensures
