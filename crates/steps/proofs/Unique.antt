-- Each public function's contract leaves no choice: it is an equation for what the result says and one for the run that is lent.
-- Assumes nothing.
use mathlib.Core.List.{[], ◌∷◌}
use Rattle.tight.specs.Tight.{Tight, law}
use Rattle.rules.proofs.Meaning.{told}
use Rattle.steps.specs.contracts as own

pub start : Tight own.start.ended (λ M 𝓤. own.start.clauses)
start = law _ _ (_ ∷ []) (λ κs a z z' l l' p q. told z z' l.0 l'.0 l.1 p q)

pub deliver : Tight own.deliver.ended (λ M 𝓤. own.deliver.clauses)
deliver = law _ _ (_ ∷ []) (λ κs a z z' l l' p q. told z z' l.0 l'.0 l.1 p q)
