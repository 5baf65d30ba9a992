-- `entries_fit::list_fits` meets its contract: only a list's elements matter.
use mathlib.Core.Path.{refl}
use borrow.Author.Tests.{eq-eqb, ne_eqb}
use Rattle.std.proofs.Common.{rules, tests}
use Rattle.std.proofs.lemmas.Iterator.{YieldsList-from_slice, YieldsList-from_take}
use Rattle.std.proofs.lemmas.Iterator.Search.{all_from_yields_List}
use Rattle.rules.specs.Terms.{elements}
use Rattle.rules.specs.WellFormed.{list_fits, may_be_element}
use Rattle.entries_fit.proofs.Elements.{all_is_every}
use Rattle.entries_fit.proofs.Examined.list_fits.Goals as goal

pub returns-then-self : goal.returns-then-self
unfolding list_fits
returns-then-self c = rw (← c.args.self.now.kinds, ne_eqb _ 3 c.if-self.true) refl

pub returns-else-self : goal.returns-else-self
unfolding list_fits elements
returns-else-self c =
    let s = c.args.self.now in
    let fit = may_be_element s.t.now s.e.0 in
    let few = YieldsList-from_take c.from.result (YieldsList-from_slice s.args cc) cc in
    let walked = all_from_yields_List fit _ _ c.all.result c.all.ensures.ran few (λ x b q k. search (rules, tests)) in
    rw (walked, all_is_every, c.from.ensures, s.arguments, ← s.counts, ← s.kinds, eq-eqb _ 3 c.if-self.false) refl
