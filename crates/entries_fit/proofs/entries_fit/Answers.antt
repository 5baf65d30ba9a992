-- `entries_fit::entries_fit` meets its contract: when entry e is reached all before it fit.
use Prim.Native.Nat.{ℕ, ◌+◌, ◌-◌, ◌≤◌}
use native.Mathlib.Omega.{arith}
use mathlib.Core.Path.{◌≡◌, refl, sym, subst, ◌∙◌}
use mathlib.Core.Bool.{Bool, true}
use Rattle.rules.specs.Choice.{all}
use Rattle.rules.proofs.Logic.{both, found_false, found_true}
use Rattle.rules.proofs.Walks.{all_next, all_fails}
use Rattle.entries_fit.proofs.entries_fit.Goals as goal

-- all up to e fit, if all before it do and it fits too
all_fit : (f : ℕ → Bool) (e : ℕ) → 1 ≤ e → all f (e - 1) ≡ true → f e ≡ true → all f e ≡ true
all_fit f e h p q = let back : e - 1 + 1 ≡ e = omega arith in subst (λ (n : ℕ). all f n ≡ true) back (all_next f (e - 1) ∙ both p (rw back q))

pub loop-e-init : goal.loop-e-init
unfolding all
loop-e-init c = refl

pub returns-then-not-fits : goal.returns-then-not-fits
returns-then-not-fits c =
    let told = rw (c.new.ensures.table, c.new.ensures.entry) at c.fits.ensures in
    let fails = found_false told c.if-not-fits.true in
    rw (← c.used-used.ensures) (sym (all_fails _ _ c.loop-e.e (omega arith) (omega arith) fails))

pub loop-e-preserved : goal.loop-e-preserved
loop-e-preserved c =
    let told = rw (c.new.ensures.table, c.new.ensures.entry) at c.fits.ensures in
    let same : c.loop-e.e + 1 - 1 ≡ c.loop-e.e = omega arith in
    rw same
    (all_fit _ _ c.loop-e.auto.e c.loop-e.invariant (found_true told c.if-not-fits.false))

pub returns-else-not-fits : goal.returns-else-not-fits
returns-else-not-fits c =
    let told = rw (c.new.ensures.table, c.new.ensures.entry) at c.fits.ensures in
    let last : c.loop-e.e ≡ c.used-used.result = omega arith in
    rw (← c.used-used.ensures, ← last)
    (sym (all_fit _ _ c.loop-e.auto.e c.loop-e.invariant (found_true told c.if-not-fits.false)))

pub returns : goal.returns
unfolding all
returns c =
    let none : c.used-used.result ≡ 0 = grind arith in
    rw (← c.used-used.ensures, none) refl
