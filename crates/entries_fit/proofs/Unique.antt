-- The public function's contract leaves no choice: it is an equation for the result. Assumes nothing.
use mathlib.Core.Path.{refl}
use mathlib.Core.List.{[]}
use Rattle.tight.specs.Tight.{Tight, law, same}
use Rattle.entries_fit.specs.contracts as own

pub entries_fit : Tight own.entries_fit.ended (λ M 𝓤. own.entries_fit.clauses)
entries_fit = law _ _ [] (λ κs a z z' l l' p q. (same p q, refl))
