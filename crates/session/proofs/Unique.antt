-- Each public function's contract leaves no choice: what is said of the result has a way back, and the run that is lent has an equation.
-- Assumes nothing.
use Rattle.std.specs.Prelude.{ℕ, Result, Ok, Err, length}
use mathlib.Core.Path.{◌≡◌, refl, sym, ap, ◌∙◌}
use mathlib.Core.List.{[], ◌∷◌}
use Rattle.tight.specs.Tight.{Tight, law, same, same_by}
use Rattle.rules.specs.Session.{Reading, found, malformed, ended, Written as Wrote, bytes, refusal}
use Rattle.rules.specs.declared.Command.{Command}
use Rattle.rules.specs.declared.Command.TheVariants.{SetUp as SetUpᶜ, Start as Startᶜ, Deliver as Deliverᶜ, Store as Storeᶜ, Nonce as Nonceᶜ, List as Listᶜ, Project as Projectᶜ, Encrypt as Encryptᶜ, Decrypt as Decryptᶜ, Parse as Parseᶜ}
use Rattle.rules.specs.declared.Refusal.{Refusal}
use Rattle.rules.proofs.Meaning.{unasked, HasFour, asked_back}
use Rattle.session.specs.declared.Step.{Step}
use Rattle.session.specs.declared.Step.TheVariants.{Record, End, Malformed}
use Rattle.session.specs.Session.{read_as, handles_beside, handles_in, written_as}
use Rattle.session.specs.contracts as own

-- the step that was read
abbrev unread : Reading → Step
unread (found r next) = Record (unasked r) next
unread malformed = Malformed
unread ended = End

-- a list's own handles are four if what it hands over is four
has_four : (c : Command) → length (handles_beside c) ≡ 4 → HasFour c
unfolding handles_beside
has_four (SetUpᶜ n m c) h = tt
has_four (Startᶜ u v) h = tt
has_four (Deliverᶜ s r h₁) h = tt
has_four (Storeᶜ d) h = tt
has_four Nonceᶜ h = tt
has_four (Listᶜ k hs) h = h
has_four (Projectᶜ h₁ i) h = tt
has_four (Encryptᶜ k l) h = tt
has_four (Decryptᶜ k c) h = tt
has_four (Parseᶜ h₁) h = tt

read_back : (s : Step) → length (handles_in s) ≡ 4 → unread (read_as s) ≡ s
unfolding read_as handles_in
read_back (Record c next) h = ap (λ c'. Record c' next) (asked_back c (has_four c h))
read_back End h = refl
read_back Malformed h = refl

step_same : (s s' : Step) {r : Reading} → length (handles_in s) ≡ 4 → length (handles_in s') ≡ 4 → read_as s ≡ r → read_as s' ≡ r → s ≡ s'
step_same s s' h h' p q = sym (read_back s h) ∙ ap unread (p ∙ sym q) ∙ read_back s' h'

abbrev unwritten : Wrote → Result ℕ Refusal
unwritten (bytes n) = Ok n
unwritten (refusal n) = Err (record { 0 = n })

written_back : (w : Result ℕ Refusal) → unwritten (written_as w) ≡ w
unfolding written_as
written_back (Ok n) = refl
written_back (Err r) = refl

pub read_record : Tight own.read_record.ended (λ M 𝓤. own.read_record.clauses)
read_record =
    law _ _ (_ ∷ _ ∷ [])
    (λ κs a z z' l l' p q. (step_same z z' p.1.1 q.1.1 p.0 q.0, refl))

pub write_record : Tight own.write_record.ended (λ M 𝓤. own.write_record.clauses)
write_record =
    law _ _ (_ ∷ []) (λ κs a z z' l l' p q. (same_by written_as unwritten written_back p.0 q.0, ap (λ t. (l.0, (t, l.1.1))) (same p.1 q.1)))
