-- `entries_fit::type_fits` meets its contract: an entry of the keys passes, any other by its type.
use mathlib.Core.Path.{refl}
use borrow.Author.Tests.{le-leb, lt-leb}
use Rattle.rules.specs.WellFormed.{type_fits}
use Rattle.entries_fit.proofs.Examined.type_fits.Goals as goal

pub returns-then-from-last_key : goal.returns-then-from-last_key
unfolding type_fits
returns-then-from-last_key c = let h = c.if-from-last_key.true in rw (← c.from.ensures, ← c.last_key.ensures, le-leb _ _ h) refl

pub returns-else-from-last_key : goal.returns-else-from-last_key
unfolding type_fits
returns-else-from-last_key c =
    let h = c.if-from-last_key.false in rw (← c.args.self.now.kinds, ← c.from.ensures, ← c.last_key.ensures, lt-leb _ _ h) c.is_later_type.ensures
