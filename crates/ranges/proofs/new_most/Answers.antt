-- `ranges::new_most` meets its contract: the version that set-up writes has room for eight.
use mathlib.Core.Path.{refl}
use Rattle.rules.specs.Table.{this_version, most_of}
use Rattle.ranges.proofs.new_most.Goals as goal

pub returns : goal.returns
unfolding most_of this_version
returns c = refl
