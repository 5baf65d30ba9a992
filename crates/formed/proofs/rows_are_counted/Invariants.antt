-- `formed::rows_are_counted` meets its contract: when e entries are counted the handles on all of them are below.
use Prim.Native.Nat.{ℕ, ◌≤◌}
use mathlib.Core.Path.{◌≡◌}
use mathlib.Core.Bool.{true}
use Rattle.rules.specs.Choice.{all}
use Rattle.rules.specs.Table.{most}
use Rattle.rules.specs.WellFormed.{handle_is_below}
use Rattle.formed.specs.Counts.{Counts}
use Rattle.formed.proofs.rows_are_counted.Given as goal

abbrev pub invariant-loop-e : goal.invariant-loop-e
invariant-loop-e l = ((k : ℕ) → k ≤ most l.t → all (handle_is_below l.t k) l.e ≡ true) × Counts l.t l.e l.held
