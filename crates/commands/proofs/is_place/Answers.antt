-- `commands::is_place` meets its contract: the same two tests.
use lib.Dec.{leb}
use Rattle.rules.specs.Commands.{is_place}
use Rattle.commands.proofs.Arrays.{also}
use Rattle.commands.proofs.Projecting.{at_most}
use Rattle.commands.proofs.is_place.Goals as goal

pub returns : goal.returns
unfolding is_place
returns c =
    rw (c.contains.ensures.value, c.new.ensures.start, c.new.ensures.exhausted, c.new.ensures.end)
    (simp at_most (also (leb 1 c.args.place) (leb c.args.place 4)))
