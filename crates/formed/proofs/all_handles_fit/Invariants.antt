-- `formed::all_handles_fit` meets its contract: the handles are counted, and when knower k is reached those of all below it fit.
use Prim.Native.Nat.{ℕ, ◌<◌}
use mathlib.Core.Path.{◌≡◌}
use mathlib.Core.Bool.{true}
use Rattle.rules.specs.WellFormed.{handles_fit}
use Rattle.formed.proofs.all_handles_fit.Given as goal

abbrev pub invariant-loop-k : goal.invariant-loop-k
invariant-loop-k l = (j : ℕ) → j < l.k → handles_fit l.t j ≡ true
