-- `formed::all_keys_fit` meets its contract: when participant p is reached the keys of all before it fit.
use native.Mathlib.Omega.{arith}
use mathlib.Core.Path.{sym}
use borrow.Author.Count.{below_more}
use Rattle.rules.proofs.Logic.{found_false, found_true}
use Rattle.rules.proofs.Walks.{all_from, all_fails}
use Rattle.formed.proofs.all_keys_fit.Goals as goal

pub loop-p-init : goal.loop-p-init
loop-p-init c = λ j l a. absurd (omega arith)

pub returns-then-not-keys_fit : goal.returns-then-not-keys_fit
returns-then-not-keys_fit c =
    sym (all_fails _ _ c.loop-p.p (omega arith) (omega (arith, c.participants-p-end.ensures)) (found_false c.keys_fit.ensures c.if-not-keys_fit.true))

pub returns-else-not-keys_fit : goal.returns-else-not-keys_fit
returns-else-not-keys_fit c =
    let all = below_more _ _ c.loop-p.invariant (λ a. found_true c.keys_fit.ensures c.if-not-keys_fit.false) in
    sym (all_from _ _ (λ j a b. all j (omega (arith, c.participants-p-end.ensures)) a))

pub returns : goal.returns
returns c = sym (all_from _ _ (λ j a b. c.loop-p.invariant j (omega (arith, c.participants-p-end.ensures)) a))
