-- `steps::send` meets its contract: it goes the rule's way, entry by entry and grant by grant.
use Rattle.rules.specs.Meaning.{said}
use Rattle.rules.proofs.Needs.{halves}
use Rattle.steps.proofs.Sends.{send_goes}
use Rattle.steps.proofs.send.Goals as goal

pub returns : goal.returns
unfolding said
returns c =
    let both = halves (send_goes _ _ _ _ _ _ _ _ _ _ _ _ _ _ _ _ _ _ c.sealed.ensures c.create-c.ensures.table c.create-c.ensures.entry c.alone.ensures c.create-o.ensures.table c.create-o.ensures.entry c.grant_each.ensures c.grant_each-2.ensures c.grant_each-3.ensures c.grant.ensures c.handle.ensures) in
    record { answer = both.0; table = both.1 }
