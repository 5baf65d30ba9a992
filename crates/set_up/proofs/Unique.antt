-- The contract of set-up leaves no choice: it is an equation for what the answer says and one for the run that is lent. Assumes nothing.
use mathlib.Core.List.{[], ◌∷◌}
use Rattle.tight.specs.Tight.{Tight, law}
use Rattle.rules.proofs.Meaning.{told}
use Rattle.set_up.specs.contracts as own

pub set_up : Tight own.set_up.ended (λ M 𝓤. own.set_up.clauses)
set_up = law _ _ (_ ∷ []) (λ κs a z z' l l' p q. told z z' l.0 l'.0 l.1 p q)
