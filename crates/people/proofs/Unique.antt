-- Each public function's contract leaves no choice: it is an equation for the result. Assumes nothing.
use mathlib.Core.Path.{refl}
use mathlib.Core.List.{[]}
use Rattle.tight.specs.Tight.{Tight, law, same}
use Rattle.people.specs.contracts as own

pub in_mask : Tight own.in_mask.ended (λ M 𝓤. own.in_mask.clauses)
in_mask = law _ _ [] (λ κs a z z' l l' p q. (same p q, refl))

pub is_participant : Tight own.is_participant.ended (λ M 𝓤. own.is_participant.clauses)
is_participant = law _ _ [] (λ κs a z z' l l' p q. (same p q, refl))

pub honest : Tight own.honest.ended (λ M 𝓤. own.honest.clauses)
honest = law _ _ [] (λ κs a z z' l l' p q. (same p q, refl))
