-- `ready` counts the used entries, two for each participant. True since no request is answered with it, and set-up counts so. Assumes nothing.
use Prim.Native.Nat.{ℕ, ◌*◌}
use native.Mathlib.Omega.{arith}
use mathlib.Core.Path.{◌≡◌, refl, ap}
use mathlib.Core.List.{List}
use lib.ListN.{get_or}
use Rattle.rules.specs.Table.{Table, participants, used}
use Rattle.rules.specs.Outcome.{ready}
use Rattle.rules.specs.Machine.{Record, SetUp, Asks, perform}
use Rattle.rules.proofs.AfterSetUp.{set_up_answers, set_up_head}
use Rattle.rules.proofs.Answers.{Reply, sends, accepts, drops, hands, parses, refuses, step_replies}

reply_not_ready : {a : List ℕ} {u : ℕ} → Reply a → a ≡ ready u → ⊥
reply_not_ready {a} {u} r q = go r (ap (λ (l : List ℕ). get_or l 0 0) q)
  where
    go : {b : List ℕ} → Reply b → get_or b 0 0 ≡ 1 → ⊥
    go sends z = omega arith
    go accepts z = omega arith
    go drops z = omega arith
    go hands z = omega arith
    go parses z = omega arith
    go refuses z = omega arith

-- who answers `ready` has a table of so many used entries, two for each participant
pub ready_counts : (r : Record) (t : Table) (u : ℕ) → (perform r t).answer ≡ ready u
    → (used (perform r t).table ≡ u) × (2 * participants (perform r t).table ≡ u)
unfolding perform
ready_counts (Asks r) t u q = absurd (reply_not_ready (step_replies r t) q)
ready_counts (SetUp n m c) t u q =
    let a = set_up_answers n m c t u q in
    let h = set_up_head n m c t a.0 in
    rw (a.1, h.0, h.3, a.2) (refl, refl)
