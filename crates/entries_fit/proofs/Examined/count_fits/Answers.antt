-- `entries_fit::count_fits` meets its contract: a list's count by its bounds, any other by its type.
use mathlib.Core.Path.{refl}
use borrow.Author.Tests.{ne_eqb}
use Rattle.std.proofs.Common.{rules}
use Rattle.rules.specs.WellFormed.{count_fits}
use Rattle.entries_fit.proofs.Examined.count_fits.Goals as goal

pub returns-then-self : goal.returns-then-self
unfolding count_fits
returns-then-self c = let s = c.args.self.now in rw (← s.kinds, ← s.counts, c.if-self.true) (search rules)

pub returns-else-self : goal.returns-else-self
unfolding count_fits
returns-else-self c = let s = c.args.self.now in rw (← s.kinds, ← s.counts, ne_eqb s.kind 3 c.if-self.false, c.count_of.ensures) refl
