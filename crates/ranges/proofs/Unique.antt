-- Each function's contract leaves no choice: it is an equation for the result. Assumes nothing.
use mathlib.Core.Path.{refl}
use mathlib.Core.List.{[]}
use Rattle.tight.specs.Tight.{Tight, law, same}
use Rattle.ranges.specs.contracts as own

pub new_most : Tight own.new_most.ended (λ M 𝓤. own.new_most.clauses)
new_most = law _ _ [] (λ κs a z z' l l' p q. (same p q, refl))

pub participants_fit : Tight own.participants_fit.ended (λ M 𝓤. own.participants_fit.clauses)
participants_fit = law _ _ [] (λ κs a z z' l l' p q. (same p q, refl))

pub mask_fits : Tight own.mask_fits.ended (λ M 𝓤. own.mask_fits.clauses)
mask_fits = law _ _ [] (λ κs a z z' l l' p q. (same p q, refl))

pub capacity_fits : Tight own.capacity_fits.ended (λ M 𝓤. own.capacity_fits.clauses)
capacity_fits = law _ _ [] (λ κs a z z' l l' p q. (same p q, refl))

pub holds_public_key : Tight own.holds_public_key.ended (λ M 𝓤. own.holds_public_key.clauses)
holds_public_key = law _ _ [] (λ κs a z z' l l' p q. (same p q, refl))
