-- `session::record_at` meets its contract: the command is the rule's record, and its handles are those of the record.
use Rattle.session.specs.Session.{read_as, handles_in}
use Rattle.session.proofs.Records.{body_read}
use Rattle.session.proofs.record_at.Goals as goal

pub returns : goal.returns
unfolding read_as handles_in
returns c =
    let both = body_read c.args.file.now c.args.b c.args.l c.requires.within c.requires.length c.byte_at-kind.ensures
    c.body_number-x.ensures c.body_number-y.ensures c.body_number-z.ensures c.body_number-w.ensures
    c.command_of-command.ensures in
    record { read = rw c.from.ensures both.0; handles = both.1 }
