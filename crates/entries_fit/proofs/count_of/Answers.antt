-- `entries_fit::count_of` meets its contract: the same two types.
use native.Mathlib.Omega.{arith}
use mathlib.Core.Path.{refl}
use mathlib.Core.Logic.{⊎_elim}
use borrow.Author.Tests.{ne_eqb}
use Rattle.rules.specs.WellFormed.{count_of}
use Rattle.entries_fit.proofs.count_of.Goals as goal

pub returns-then-kind-2 : goal.returns-then-kind-2
unfolding count_of
returns-then-kind-2 c = ⊎_elim (λ q. rw q refl) (λ q. rw q.1 refl) c.if-kind-2.either

pub returns-else-kind-2 : goal.returns-else-kind-2
unfolding count_of
returns-else-kind-2 c = grind (arith, ne_eqb)
