-- `commands::decrypt_of` meets its contract: each way out is the rule's.
use mathlib.Core.Path.{◌≡◌, refl, ◌∙◌}
use Rattle.rules.specs.Outcome.{gives, refused}
use Rattle.rules.specs.Commands.{decrypt_of}
use Rattle.rules.specs.Meaning.{said}
use Rattle.rules.proofs.Needs.{ends}
use Rattle.commands.proofs.Sealing.{no_secret_key, no_ciphertext, other_key, opened}
use Rattle.commands.proofs.decrypt_of.Goals as goal
use Rattle.commands.proofs.decrypt_of.Goals.{then-kind-via-then-kind, then-kind-via-else-kind+then-kind-2}

pub returns-then-kind : goal.returns-then-kind
unfolding said
returns-then-kind c =
    let same : decrypt_of c.args.t.now c.args.key.0 c.args.ciphertext.0 ≡ gives (refused 6) c.args.t.now = elim c.then-kind.branch [
      | then-kind-via-then-kind w ↦ no_secret_key _ _ _ _ c.kind.ensures w.if-kind.true
      | then-kind-via-else-kind+then-kind-2 w ↦ no_ciphertext _ _ _ _ c.kind.ensures w.if-kind.false _ w.kind-else-kind.ensures w.if-kind-2.true
    ] in
    let both = ends same (refl, refl) in
    record { answer = both.0; table = both.1 }

pub returns-then-from : goal.returns-then-from
unfolding said
returns-then-from c =
    let both = ends
    (other_key _ _ _ _ c.kind.ensures c.if-kind.false _ c.kind-else-kind.ensures c.if-kind-2.false _ (c.from.ensures ∙ c.first.ensures)
    (rw c.from-2.ensures at c.if-from.true))
    (refl, refl) in
    record { answer = both.0; table = both.1 }

pub returns : goal.returns
returns c =
    let both = ends
    (opened _ _ _ _ c.kind.ensures c.if-kind.false _ c.kind-else-kind.ensures c.if-kind-2.false _ (c.from.ensures ∙ c.first.ensures) _
    (rw c.from-2.ensures at c.if-from.false) c.second-list.ensures)
    (c.give.ensures.answer, c.give.ensures.table) in
    record { answer = both.0; table = both.1 }
