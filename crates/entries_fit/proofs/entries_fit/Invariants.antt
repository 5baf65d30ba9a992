-- `entries_fit::entries_fit` meets its contract: when entry e is reached all before it fit.
use Prim.Native.Nat.{◌-◌}
use mathlib.Core.Path.{◌≡◌}
use mathlib.Core.Bool.{true}
use Rattle.rules.specs.Choice.{all}
use Rattle.rules.specs.WellFormed.{entry_fits}
use Rattle.entries_fit.proofs.entries_fit.Given as goal

abbrev pub invariant-loop-e : goal.invariant-loop-e
invariant-loop-e l = all (entry_fits l.t) (l.e - 1) ≡ true
