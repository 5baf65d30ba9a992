-- `commands::encrypt_of` meets its contract: each way out is the rule's.
use mathlib.Core.Path.{◌≡◌, refl, ◌∙◌}
use Rattle.rules.specs.Outcome.{gives, refused}
use Rattle.rules.specs.Commands.{encrypt_of}
use Rattle.rules.specs.Meaning.{said}
use Rattle.rules.proofs.Needs.{ends}
use Rattle.commands.proofs.Sealing.{no_public_key, no_list, sealed}
use Rattle.commands.proofs.encrypt_of.Goals as goal
use Rattle.commands.proofs.encrypt_of.Goals.{then-kind-via-then-kind, then-kind-via-else-kind+then-kind-2}

pub returns-then-kind : goal.returns-then-kind
unfolding said
returns-then-kind c =
    let same : encrypt_of c.args.t.now c.args.key.0 c.args.list.0 ≡ gives (refused 6) c.args.t.now = elim c.then-kind.branch [
      | then-kind-via-then-kind w ↦ no_public_key _ _ _ _ c.kind.ensures w.if-kind.true
      | then-kind-via-else-kind+then-kind-2 w ↦ no_list _ _ _ _ c.kind.ensures w.if-kind.false _ w.kind-else-kind.ensures w.if-kind-2.true
    ] in
    let both = ends same (refl, refl) in
    record { answer = both.0; table = both.1 }

pub returns : goal.returns
returns c =
    let both = ends
    (sealed _ _ _ _ c.kind.ensures c.if-kind.false _ c.kind-else-kind.ensures _ c.if-kind-2.false (c.from-len.ensures ∙ c.length.ensures))
    (c.give_new.ensures.answer, c.give_new.ensures.table) in
    record { answer = both.0; table = both.1 }
