-- `formed::key_is_held` meets its contract: when knower k is reached all below it hold the key as named.
use Prim.Native.Nat.{ℕ, ◌<◌}
use mathlib.Core.Path.{◌≡◌}
use mathlib.Core.Bool.{true}
use Rattle.rules.specs.Meaning.{number_of}
use Rattle.rules.specs.Table.{word}
use Rattle.rules.specs.WellFormed.{held_as_named}
use Rattle.formed.specs.Keys.{named_for}
use Rattle.formed.proofs.key_is_held.Given as goal

abbrev pub invariant-loop-k : goal.invariant-loop-k
invariant-loop-k l = (j : ℕ) → j < l.k → held_as_named l.t (named_for (number_of l.kind) (word l.t 0 2) l.p) l.e.0 j ≡ true
