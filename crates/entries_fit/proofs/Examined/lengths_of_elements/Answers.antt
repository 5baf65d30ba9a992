-- `entries_fit::lengths_of_elements` meets its contract: at most four lengths of 16 bits are added.
use native.Mathlib.Omega.{arith}
use mathlib.Core.Path.{refl}
use Rattle.std.proofs.Common.{rules, tests, ◌≡◌, ◌<◌, ◌≤◌, ◌+◌, ◌^◌, ℕ, Option, take, length}
use Rattle.std.proofs.lemmas.List.{length-take}
use Rattle.std.proofs.lemmas.Iterator.{YieldsList-from_slice, YieldsList-from_take, YieldsList-from_map}
use Rattle.std.proofs.lemmas.Iterator.Consumers.{sum_by_from_yields_List}
use Rattle.std.proofs.lemmas.Iterator.Adapters.{fits_from_length, at_most_from_yields_List}
use Rattle.std.specs.Iterator.Runs.{Trigger, WholeRun, EachRunFrom}
use Rattle.std.specs.List.{fold}
use Rattle.rules.specs.Table.{Table, length_at, arguments}
use Rattle.rules.specs.Terms.{elements}
use Rattle.entries_fit.proofs.Elements.{sum_is}
use Rattle.entries_fit.proofs.Examined.lengths_of_elements.Goals as goal

-- a sum that is below a number along each run is below it
below : {S : Type 0} {steps : S → Option ℕ → S → Type 0} {s : S} {top r : ℕ}
    → WholeRun steps s (λ p. r ≡ fold (λ a x. a + x) 0 p.items)
    → EachRunFrom steps s (λ p. fold (λ a x. a + x) 0 p.items < top) → r < top
unfolding Trigger
below w e = rw w.3 (e w.0 tt w.1)

at_most_four : (t : Table) (e n : ℕ) → length (take n (arguments t e)) ≤ 4
unfolding arguments
at_most_four t e n = rw length-take (omega arith)

pub sum-requires-clause-fits : goal.sum-requires-clause-fits
sum-requires-clause-fits c =
    let s = c.args.self.now in
    let few : length (take c.from.result s.args) ≤ 4 = rw s.arguments (at_most_four _ _ _) in
    let road = YieldsList-from_take c.from.result (YieldsList-from_slice s.args cc) cc in
    fits_from_length _ _ 4 (2 ^ 32) (at_most_from_yields_List road few) c.map.ensures.closure (omega arith) (λ x r q k. search rules)

pub returns-clause-sum : goal.returns-clause-sum
unfolding elements
returns-clause-sum c =
    let s = c.args.self.now in
    let measure = length_at s.t.now in
    let few = YieldsList-from_take c.from.result (YieldsList-from_slice s.args cc) cc in
    let walked = sum_by_from_yields_List measure (take c.from.result s.args) c.map.result c.sum.result c.sum.ensures.ran (YieldsList-from_map _ measure few c.map.ensures.closure (λ x r q k. search (rules, tests))) in
    rw (walked, sum_is, c.from.ensures, s.arguments, ← s.counts) refl

pub returns-clause-small : goal.returns-clause-small
returns-clause-small c =
    let s = c.args.self.now in
    let few : length (take c.from.result s.args) ≤ 4 = rw s.arguments (at_most_four _ _ _) in
    let road = YieldsList-from_take c.from.result (YieldsList-from_slice s.args cc) cc in
    below (c.sum.ensures.runs tt)
    (fits_from_length _ _ 4 262144 (at_most_from_yields_List road few) c.map.ensures.closure (omega arith) (λ x r q k. search rules))
