-- `steps::create_unless` meets its contract: what was found stands, and where nothing was a new entry is made.
use mathlib.Core.Path.{refl}
use Rattle.rules.specs.Meaning.{found_at}
use Rattle.steps.specs.Sending.{add_unless}
use Rattle.steps.proofs.create_unless.Goals as goal

pub returns-in-Some : goal.returns-in-Some
unfolding found_at add_unless
returns-in-Some c = let at = c.in-Some.is in
    record { entry = rw at refl; table = rw at refl }

pub returns-in-None : goal.returns-in-None
unfolding found_at add_unless
returns-in-None c = let none = c.in-None.is in
    record { entry = rw none c.create.ensures.entry; table = rw none c.create.ensures.table }
