-- Each public function's contract leaves no choice: it is an equation for what the result says and one for the run that is lent.
-- Assumes nothing.
use mathlib.Core.Path.{refl}
use mathlib.Core.List.{[], ◌∷◌}
use Rattle.tight.specs.Tight.{Tight, law, same}
use Rattle.rules.proofs.Meaning.{told, reply_told}
use Rattle.room.specs.contracts as own

pub has_room : Tight own.has_room.ended (λ M 𝓤. own.has_room.clauses)
has_room = law _ _ [] (λ κs a z z' l l' p q. (same p q, refl))

pub give : Tight own.give.ended (λ M 𝓤. own.give.clauses)
give = law _ _ (_ ∷ []) (λ κs a z z' l l' p q. reply_told z z' l.0 l'.0 l.1 p q)

pub give_new : Tight own.give_new.ended (λ M 𝓤. own.give_new.clauses)
give_new = law _ _ (_ ∷ []) (λ κs a z z' l l' p q. told z z' l.0 l'.0 l.1 p q)
