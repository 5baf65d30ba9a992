-- `set_up::first_handles` meets its contract: after k turns the knowers below k have next handle 1.
use mathlib.Core.Path.{◌≡◌}
use lib.ListN.{replicate}
use lib.Seq.{sets}
use Rattle.set_up.proofs.first_handles.Given as goal

abbrev pub invariant-loop-k : goal.invariant-loop-k
invariant-loop-k l = l.t ≡ sets l.initial.t 5 (replicate l.k 1)
