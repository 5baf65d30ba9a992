-- The contract leaves no choice: it is an equation for the result. Assumes nothing.
use mathlib.Core.Path.{refl}
use mathlib.Core.List.{[]}
use Rattle.tight.specs.Tight.{Tight, law, same}
use Rattle.beside.specs.contracts as own

pub list_is_asked : Tight own.list_is_asked.ended (λ M 𝓤. own.list_is_asked.clauses)
list_is_asked = law _ _ [] (λ κs a z z' l l' p q. (same p q, refl))
