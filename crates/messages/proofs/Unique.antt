-- The public function's contract leaves no choice: it is an equation for what the result means, and that tells the results apart.
-- Assumes nothing.
use mathlib.Core.Path.{refl}
use mathlib.Core.List.{[]}
use Rattle.tight.specs.Tight.{Tight, law, same_by}
use Rattle.messages.specs.Reading.{read_as}
use Rattle.messages.proofs.Read.{unread, read_back}
use Rattle.messages.specs.contracts as own

pub read_message : Tight own.read_message.ended (λ M 𝓤. own.read_message.clauses)
read_message = law _ _ [] (λ κs a z z' l l' p q. (same_by read_as unread read_back p q, refl))
