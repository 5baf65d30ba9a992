-- `session::read_record` meets its contract: the rule's tests, in its order.
use mathlib.Core.Path.{refl, ap, ◌∙◌}
use lib.ListN.{length}
use Rattle.rules.proofs.RoundTrip.{reads_end, reads_short, reads_body}
use Rattle.session.specs.Session.{four_handles, read_as, handles_in, beside}
use Rattle.session.proofs.Records.{four_long}
use Rattle.session.proofs.read_record.Goals as goal

pub returns-then-file-at : goal.returns-then-file-at
unfolding read_as handles_in beside four_handles
returns-then-file-at c = let e = reads_end _ _ c.if-file-at.true in record { read = rw e; handles = rw e; four = refl }

pub returns-then-file-at-2 : goal.returns-then-file-at-2
unfolding read_as handles_in beside four_handles
returns-then-file-at-2 c = let e = reads_short _ _ c.if-file-at.false c.if-file-at-2.true in record { read = rw e; handles = rw e; four = refl }

pub returns : goal.returns
returns c =
    let e = reads_body _ _ c.if-file-at-2.false in
    let read = c.read_body.ensures in
    record {
      read = rw (e, ← c.number.ensures) read.read;
      handles = rw (e, ← c.number.ensures) read.handles;
      four = ap length read.handles ∙ four_long _;
    }
