-- Each public function's contract leaves no choice: it is an equation for what the result says and one for the run that is lent.
-- Assumes nothing.
use mathlib.Core.Path.{refl, ap}
use mathlib.Core.List.{[]}
use Rattle.tight.specs.Tight.{Tight, law, same, same_by}
use Rattle.rules.specs.Meaning.{found_at}
use Rattle.rules.proofs.Meaning.{unfound, found_back}
use Rattle.handles.specs.contracts as own

pub raised : Tight own.raised.ended (λ M 𝓤. own.raised.clauses)
raised = law _ _ [] (λ κs a z z' l l' p q. (same p q, refl))

pub handle : Tight own.handle.ended (λ M 𝓤. own.handle.clauses)
handle = law _ _ [] (λ κs a z z' l l' p q. (λ i. record { 0 = same p q i }, refl))

pub next_handle : Tight own.next_handle.ended (λ M 𝓤. own.next_handle.clauses)
next_handle = law _ _ [] (λ κs a z z' l l' p q. (λ i. record { 0 = same p q i }, refl))

pub holds : Tight own.holds.ended (λ M 𝓤. own.holds.clauses)
holds = law _ _ [] (λ κs a z z' l l' p q. (same p q, refl))

pub grant : Tight own.grant.ended (λ M 𝓤. own.grant.clauses)
grant = law _ _ [] (λ κs a z z' l l' p q. (refl, ap (λ t. (t, l.1)) (same p q)))

pub entry_of : Tight own.entry_of.ended (λ M 𝓤. own.entry_of.clauses)
entry_of = law _ _ [] (λ κs a z z' l l' p q. (same_by found_at unfound found_back p q, refl))
