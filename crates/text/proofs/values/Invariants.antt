-- `text::values` meets its contract: after i turns all but the first i values are to be written, and then the whole is.
use Prim.Native.Nat.{ℕ}
use mathlib.Core.List.{List}
use lib.ListN.{drop}
use Rattle.rules.specs.Player.{spaced}
use Rattle.text.specs.Put.{Put}
use Rattle.text.proofs.values.Given as goal

abbrev pub invariant-loop-v : goal.invariant-loop-v
invariant-loop-v l =
    (c : List ℕ) (k : ℕ) → Put l.out l.end (spaced (drop l.v-index l.vs)) c k → Put l.initial.out l.at (spaced l.vs) c k
