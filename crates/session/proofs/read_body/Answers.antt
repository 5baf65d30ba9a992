-- `session::read_body` meets its contract: the rule's two tests, in its order.
use Rattle.rules.proofs.RoundTrip.{body_long, body_unfit}
use Rattle.session.specs.Session.{read_as, handles_in, beside}
use Rattle.session.proofs.read_body.Goals as goal

pub returns-then-file-b : goal.returns-then-file-b
unfolding read_as handles_in beside
returns-then-file-b c = let e = body_long _ _ _ (rw c.from.ensures at c.if-file-b.true) in record { read = rw e; handles = rw e }

pub returns-then-not-is_within : goal.returns-then-not-is_within
unfolding read_as handles_in beside
returns-then-not-is_within c =
    let e =
    body_unfit c.args.file.now c.args.b c.args.l (rw c.from.ensures at c.if-file-b.false)
    (rw (← c.byte_at.ensures, ← c.lengths_of.ensures, ← c.is_within.ensures) c.if-not-is_within.true) in
    record { read = rw e; handles = rw e }
