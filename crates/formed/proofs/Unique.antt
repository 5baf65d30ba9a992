-- The public function's contract leaves no choice: it is an equation for the result. Assumes nothing.
use mathlib.Core.Path.{refl}
use mathlib.Core.List.{[]}
use Rattle.tight.specs.Tight.{Tight, law, same}
use Rattle.formed.specs.contracts as own

pub well_formed : Tight own.well_formed.ended (λ M 𝓤. own.well_formed.clauses)
well_formed = law _ _ [] (λ κs a z z' l l' p q. (same p q, refl))
