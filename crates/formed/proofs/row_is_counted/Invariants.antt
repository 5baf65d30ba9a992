-- `formed::row_is_counted` meets its contract: when knower k is reached the handles of all before it are counted, and the flag says whether
-- they are below.
use Prim.Native.Nat.{◌+◌}
use Rattle.formed.specs.Counts.{handle_is_below_at}
use Rattle.formed.proofs.Counting.{Turned, Passed}
use Rattle.formed.proofs.row_is_counted.Given as goal

abbrev pub invariant-loop-k : goal.invariant-loop-k
invariant-loop-k l = Passed (handle_is_below_at l.t (l.e + 1)) l.k l.below × Turned l.t l.e l.k l.held
