-- `formed::key_is_held` meets its contract: when knower k is reached all below it hold the key as named.
use Prim.Native.Nat.{◌≤◌}
use native.Mathlib.Omega.{arith}
use mathlib.Core.Path.{◌≡◌, refl, sym}
use mathlib.Core.Bool.{Bool, true, false, not, beq}
use borrow.Author.Count.{below_more}
use Rattle.rules.specs.Choice.{agree}
use Rattle.rules.specs.Table.{most}
use Rattle.rules.specs.WellFormed.{held_as_named}
use Rattle.rules.proofs.Logic.{never}
use Rattle.rules.proofs.Words.{most_high}
use Rattle.rules.proofs.Formed.{knower_from, knower_fails}
use Rattle.formed.proofs.key_is_held.Goals as goal

-- what the test says of the two that it compares
differ : (a b : Bool) → not (beq b a) ≡ true → agree a b ≡ false
differ true true h = never h refl
differ true false h = refl
differ false true h = refl
differ false false h = never h refl

alike : (a b : Bool) → not (beq b a) ≡ false → agree a b ≡ true
alike true true h = refl
alike true false h = never refl h
alike false true h = never refl h
alike false false h = refl

pub overflow_add-knowers : goal.overflow_add-knowers
overflow_add-knowers c = omega (arith, c.most-knowers.ensures, most_high c.args.t.now)

pub returns-then-is_named-holds : goal.returns-then-is_named-holds
unfolding held_as_named
returns-then-is_named-holds c =
    let low : c.loop-k.k ≤ most c.args.t.now = omega (arith, c.most-knowers.ensures) in
    sym (knower_fails _ _ c.loop-k.k low
    (rw (c.holds.ensures, c.is_named.ensures, c.mask-mask.ensures) at (differ _ _ c.if-is_named-holds.true)))

pub loop-k-preserved : goal.loop-k-preserved
unfolding held_as_named
loop-k-preserved c =
    below_more _ _ c.loop-k.invariant
    (rw (c.holds.ensures, c.is_named.ensures, c.mask-mask.ensures) at (alike _ _ c.if-is_named-holds.false))

pub returns : goal.returns
returns c = sym (knower_from _ _ (λ j l. c.loop-k.invariant j (omega (arith, c.most-knowers.ensures))))
