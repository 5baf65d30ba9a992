-- `rows::most` meets its contract: there is one form, with room for eight.
use mathlib.Core.Path.{refl}
use Rattle.rules.specs.Table.{most_of, most}
use Rattle.rows.proofs.most.Goals as goal

pub returns : goal.returns
unfolding most most_of
returns c = refl
