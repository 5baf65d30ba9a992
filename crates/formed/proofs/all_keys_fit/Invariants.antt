-- `formed::all_keys_fit` meets its contract: when participant p is reached the keys of all before it fit.
use Prim.Native.Nat.{ℕ, ◌≤◌, ◌<◌}
use mathlib.Core.Path.{◌≡◌}
use mathlib.Core.Bool.{true}
use Rattle.rules.specs.WellFormed.{keys_fit}
use Rattle.formed.proofs.all_keys_fit.Given as goal

abbrev pub invariant-loop-p : goal.invariant-loop-p
invariant-loop-p l = (j : ℕ) → j < l.p → 1 ≤ j → keys_fit l.t j ≡ true
