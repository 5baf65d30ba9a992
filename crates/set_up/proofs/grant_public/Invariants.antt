-- `set_up::grant_public` meets its contract: after k turns those of the knowers below k that the test names have the entry.
use mathlib.Core.Path.{◌≡◌}
use Rattle.rules.specs.SetUp.{holds_public_key}
use Rattle.set_up.proofs.Granting.{granted_below}
use Rattle.set_up.proofs.grant_public.Given as goal

abbrev pub invariant-loop-k : goal.invariant-loop-k
invariant-loop-k l = l.t ≡ granted_below l.initial.t (holds_public_key l.m) l.e.0 l.k
