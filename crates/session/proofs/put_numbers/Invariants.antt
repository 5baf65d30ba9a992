-- `session::put_numbers` meets its contract: after i turns the first i numbers stand there.
use mathlib.Core.Path.{◌≡◌}
use lib.ListN.{take}
use lib.Seq.{sets}
use Rattle.rules.specs.Session.{bytes_of}
use Rattle.session.proofs.put_numbers.Given as goal

abbrev pub invariant-loop-i : goal.invariant-loop-i
invariant-loop-i l = l.out ≡ sets l.initial.out 3 (bytes_of (take l.i l.values))
