-- `player::records` meets its contract: after each record the lines that are done and those that are left are all of them.
use Prim.Native.Nat.{ℕ, ◌-◌, ◌≤◌}
use mathlib.Core.Path.{◌≡◌}
use mathlib.Core.List.{List}
use lib.ListN.{length}
use Rattle.rules.specs.WellFormed.{well_formed}
use Rattle.rules.specs.Session.{items_of}
use Rattle.rules.specs.Player.{lines_from, answers_to}
use Rattle.text.specs.Put.{Put}
use Rattle.player.proofs.Playing.{Left}
use Rattle.player.proofs.records.Given as goal

abbrev pub invariant-loop-at : goal.invariant-loop-at
invariant-loop-at l = (done : List ℕ) × Put l.initial.out 0 done l.out l.end × Left l.file (lines_from 1 (answers_to (items_of l.file) l.initial.t)) l.at l.place l.t done × (l.formed ≡ well_formed l.t)
    × (l.place ≤ l.at) × (length l.t ≡ length l.initial.t)

abbrev pub decreases-loop-at : goal.decreases-loop-at
decreases-loop-at l = length l.file - l.at
