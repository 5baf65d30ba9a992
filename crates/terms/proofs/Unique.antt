-- Each public function's contract leaves no choice: it is an equation for what the result says and one for the run that is lent.
-- Assumes nothing.
use mathlib.Core.Path.{refl, ap}
use mathlib.Core.List.{[], ◌∷◌}
use Rattle.tight.specs.Tight.{Tight, law, same, same_by}
use Rattle.rules.specs.Meaning.{found_at}
use Rattle.rules.proofs.Meaning.{unfound, found_back}
use Rattle.terms.specs.contracts as own

pub create : Tight own.create.ended (λ M 𝓤. own.create.clauses)
create = law _ _ (_ ∷ []) (λ κs a z z' l l' p q. (λ i. record { 0 = same p.0 q.0 i }, ap (λ t. (t, l.1)) (same p.1 q.1)))

pub is_datum_of : Tight own.is_datum_of.ended (λ M 𝓤. own.is_datum_of.clauses)
is_datum_of = law _ _ [] (λ κs a z z' l l' p q. (same p q, refl))

pub find_datum : Tight own.find_datum.ended (λ M 𝓤. own.find_datum.clauses)
find_datum = law _ _ [] (λ κs a z z' l l' p q. (same_by found_at unfound found_back p q, refl))

pub find_list : Tight own.find_list.ended (λ M 𝓤. own.find_list.clauses)
find_list = law _ _ [] (λ κs a z z' l l' p q. (same_by found_at unfound found_back p q, refl))
