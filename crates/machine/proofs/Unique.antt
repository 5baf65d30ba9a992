-- Each function of both layers leaves no choice: its contract is an equation for what the answer says and one for the run that is lent.
-- Assumes nothing.
use mathlib.Core.Path.{refl}
use mathlib.Core.List.{[], ◌∷◌}
use Rattle.tight.specs.Tight.{Tight, law, same, same_by}
use Rattle.rules.specs.Meaning.{said}
use Rattle.rules.proofs.Meaning.{unsaid, said_back, told}
use Rattle.machine.specs.contracts as own

pub is_set_up : Tight own.is_set_up.ended (λ M 𝓤. own.is_set_up.clauses)
is_set_up = law _ _ [] (λ κs a z z' l l' p q. (same p q, refl))

pub act : Tight own.act.ended (λ M 𝓤. own.act.clauses)
act = law _ _ (_ ∷ []) (λ κs a z z' l l' p q. told z z' l.0 l'.0 l.1 p q)

pub start : Tight own.start.ended (λ M 𝓤. own.start.clauses)
start = law _ _ (_ ∷ []) (λ κs a z z' l l' p q. told z z' l.0 l'.0 l.1 p q)

pub deliver : Tight own.deliver.ended (λ M 𝓤. own.deliver.clauses)
deliver = law _ _ (_ ∷ []) (λ κs a z z' l l' p q. told z z' l.0 l'.0 l.1 p q)

pub store : Tight own.store.ended (λ M 𝓤. own.store.clauses)
store = law _ _ (_ ∷ []) (λ κs a z z' l l' p q. told z z' l.0 l'.0 l.1 p q)

pub nonce : Tight own.nonce.ended (λ M 𝓤. own.nonce.clauses)
nonce = law _ _ (_ ∷ []) (λ κs a z z' l l' p q. told z z' l.0 l'.0 l.1 p q)

pub list : Tight own.list.ended (λ M 𝓤. own.list.clauses)
list = law _ _ (_ ∷ []) (λ κs a z z' l l' p q. told z z' l.0 l'.0 l.1 p q)

pub project : Tight own.project.ended (λ M 𝓤. own.project.clauses)
project = law _ _ (_ ∷ []) (λ κs a z z' l l' p q. told z z' l.0 l'.0 l.1 p q)

pub encrypt : Tight own.encrypt.ended (λ M 𝓤. own.encrypt.clauses)
encrypt = law _ _ (_ ∷ []) (λ κs a z z' l l' p q. told z z' l.0 l'.0 l.1 p q)

pub decrypt : Tight own.decrypt.ended (λ M 𝓤. own.decrypt.clauses)
decrypt = law _ _ (_ ∷ []) (λ κs a z z' l l' p q. told z z' l.0 l'.0 l.1 p q)

pub perform : Tight own.perform.ended (λ M 𝓤. own.perform.clauses)
perform = law _ _ (_ ∷ []) (λ κs a z z' l l' p q. told z z' l.0 l'.0 l.1 p q)

pub parse : Tight own.parse.ended (λ M 𝓤. own.parse.clauses)
parse = law _ _ [] (λ κs a z z' l l' p q. (same_by said unsaid said_back p q, refl))
