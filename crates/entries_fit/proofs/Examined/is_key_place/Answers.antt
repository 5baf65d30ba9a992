-- `entries_fit::is_key_place` meets its contract: the three tests are the rule's.
use native.Mathlib.Omega.{arith}
use borrow.Author.Tests.{le-leb, lt-leb}
use Rattle.rules.specs.WellFormed.{is_key_place}
use Rattle.entries_fit.proofs.Examined.is_key_place.Goals as goal

pub returns-then-from-last_key : goal.returns-then-from-last_key
unfolding is_key_place
returns-then-from-last_key c = grind (arith, le-leb, lt-leb)

pub returns-else-from-last_key : goal.returns-else-from-last_key
unfolding is_key_place
returns-else-from-last_key c = grind (arith, le-leb, lt-leb)
