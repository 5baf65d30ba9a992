-- `commands::nonce` meets its contract: its numbers are those of a nonce of no participant.
use Rattle.rules.specs.Commands.{new_nonce}
use Rattle.rules.proofs.Needs.{ends}
use Rattle.commands.proofs.Making.{new_nonce_lem}
use Rattle.commands.proofs.nonce.Goals as goal

pub returns : goal.returns
unfolding new_nonce
returns c =
    let both = ends (new_nonce_lem _) (c.give_new.ensures.answer, c.give_new.ensures.table) in
    record { answer = both.0; table = both.1 }
