-- `entries_fit::unused_are_zero` meets its contract: the walk over the arguments that are left is the rule's.
use Rattle.std.proofs.Common.{rules, tests, refl, ℕ}
use native.Mathlib.Nat.{sub-zero}
use lib.Dec.{eqb, ltb}
use Rattle.std.proofs.lemmas.Iterator.{YieldsList-from_slice}
use Rattle.std.proofs.lemmas.Iterator.Consumers.{YieldsList-from_enumerate}
use Rattle.std.proofs.lemmas.Iterator.Search.{all_from_yields_List}
use Rattle.rules.specs.Choice.{◌or◌, is_zero}
use Rattle.rules.specs.WellFormed.{unused_are_zero}
use Rattle.entries_fit.proofs.Elements.{left_pass}
use Rattle.entries_fit.proofs.Examined.unused_are_zero.Goals as goal

pub returns : goal.returns
unfolding unused_are_zero is_zero
returns c =
    let s = c.args.self.now in
    let road = YieldsList-from_enumerate (YieldsList-from_slice s.args cc) cc in
    let test = λ (p : ℕ × ℕ). ltb p.0 c.from-count.result or eqb p.1 0 in
    let walked = all_from_yields_List test _ _ c.all.result c.all.ensures.ran road (λ x b q k. search (rules, tests)) in
    rw (walked, left_pass (λ (x : ℕ). eqb x 0) s.args 0 c.from-count.result, sub-zero, c.from-count.ensures, s.arguments, s.counts) refl
