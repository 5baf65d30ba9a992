-- `messages::is_nonce_of` meets its contract: the three tests are the rule's.
use mathlib.Core.Path.{◌≡◌, refl, sym, ◌∙◌}
use mathlib.Core.Bool.{true, false}
use lib.Dec.{eqb}
use borrow.Author.Tests.{eq-eqb, ne_eqb}
use Rattle.rules.specs.Terms.{is_nonce_of}
use Rattle.rules.proofs.Logic.{never}
use Rattle.messages.proofs.is_nonce_of.Goals as goal
use Rattle.messages.proofs.is_nonce_of.Goals.{then-kind, else-kind}

pub returns-then-first-r : goal.returns-then-first-r
unfolding is_nonce_of
returns-then-first-r c =
    elim c.if-kind.branch [
      | then-kind w ↦
          let own : eqb w.first.result c.args.r ≡ true = sym w.value-is ∙ c.if-first-r.true in
          rw (← c.kind.ensures, eq-eqb _ 2 w.if-kind.true, ← w.first.ensures, own, ← c.second.ensures) refl
      | else-kind w ↦ never c.if-first-r.true (w.value-is ∙ ne_eqb _ 2 w.if-kind.false)
    ]

pub returns-else-first-r : goal.returns-else-first-r
unfolding is_nonce_of
returns-else-first-r c =
    elim c.if-kind.branch [
      | then-kind w ↦
          let foreign : eqb w.first.result c.args.r ≡ false = sym w.value-is ∙ c.if-first-r.false in
          rw (← c.kind.ensures, eq-eqb _ 2 w.if-kind.true, ← w.first.ensures, foreign) c.if-first-r.false
      | else-kind w ↦ rw (← c.kind.ensures, ne_eqb _ 2 w.if-kind.false) c.if-first-r.false
    ]
