-- `terms::find_datum` meets its contract: the type and the first argument are all that makes a datum of that value.
use Prim.Native.Nat.{ℕ}
use mathlib.Core.Path.{◌≡◌}
use mathlib.Core.List.{List}
use lib.Dec.{eqb}
use Rattle.rules.specs.Table.{Table, type_at, argument}
use Rattle.rules.specs.Terms.{data_type, is_datum_of, find_datum}
use Rattle.rules.specs.Meaning.{or_nothing}
use Rattle.rules.proofs.Logic.{and_swap}
use Rattle.rows.specs.Search.{has_both, next_with}
use Rattle.rows.proofs.Search.{next_of_all}
use Rattle.terms.proofs.find_datum.Goals as goal

by_words : (t : Table) (d : ℕ) {r : List ℕ} → r ≡ or_nothing (next_with t 0 2 d 0 data_type) → r ≡ or_nothing (find_datum t d)
unfolding is_datum_of find_datum has_both
by_words t d p =
    let n = next_of_all t (is_datum_of t d) 2 d 0 data_type (λ x. and_swap (eqb (type_at t x) data_type) (eqb (argument t x 1) d)) in
    rw (← n) p

pub returns : goal.returns
returns c = by_words _ _ c.next_with.ensures
