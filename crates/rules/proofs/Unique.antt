-- The contract of reading a type's number, a trait's function, leaves no choice: a number names one type or none. Assumes nothing.
use mathlib.Core.Path.{refl}
use mathlib.Core.List.{[]}
use Rattle.tight.specs.Tight.{Tight, law}
use Rattle.rules.proofs.Meaning.{named_once}
use Rattle.rules.specs.contracts as own

pub KindTryFromU16-try_from : Tight own.KindTryFromU16.try_from.ended (λ M 𝓤. own.KindTryFromU16.try_from.clauses)
KindTryFromU16-try_from = law _ _ [] (λ κs a z z' l l' p q. (named_once _ z z' p q, refl))
