-- `set_up::add_all_keys` meets its contract: before participant p's turn the keys of those below p are there.
use Prim.Native.Nat.{◌+◌, ◌-◌, ◌≤◌}
use mathlib.Core.Path.{◌≡◌}
use Rattle.rules.specs.SetUp.{add_all_keys}
use Rattle.set_up.proofs.add_all_keys.Given as goal

abbrev pub invariant-loop-p : goal.invariant-loop-p
invariant-loop-p l = (l.p ≤ l.n + 1) × (l.t ≡ add_all_keys l.initial.t l.m (l.p - 1))
