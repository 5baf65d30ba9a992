-- `text::word` meets its contract: if all fits, all bytes are written at once, and else `cut` writes those that do.
use Rattle.text.proofs.Putting.{put_from, put_all}
use Rattle.text.proofs.word.Goals as goal

pub returns-then-out-end : goal.returns-then-out-end
returns-then-out-end c = put_from c.min-start.ensures c.cut.ensures

pub returns : goal.returns
returns c = put_from c.min-start.ensures (put_all _ _ _ _ c.if-out-end.false c.copy_from_slice.ensures.after)
