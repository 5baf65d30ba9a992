-- `entries_fit::length_fits` meets its contract: the two tests are the rule's.
use mathlib.Core.Path.{refl}
use borrow.Author.Tests.{eq-eqb, ne_eqb}
use Rattle.rules.specs.Terms.{longest}
use Rattle.rules.specs.WellFormed.{length_fits}
use Rattle.entries_fit.proofs.Examined.length_fits.Goals as goal

pub returns-then-from-length_of : goal.returns-then-from-length_of
unfolding length_fits longest
returns-then-from-length_of c =
    let s = c.args.self.now in rw (← s.lengths, ← c.length_of.ensures, ← c.from.ensures, eq-eqb _ _ c.if-from-length_of.true) refl

pub returns-else-from-length_of : goal.returns-else-from-length_of
unfolding length_fits
returns-else-from-length_of c =
    let s = c.args.self.now in rw (← s.lengths, ← c.length_of.ensures, ← c.from.ensures, ne_eqb _ _ c.if-from-length_of.false) refl
