-- `steps::grant_each` meets its contract: after i turns the first i of the slice are granted.
use mathlib.Core.Path.{◌≡◌}
use lib.ListN.{take}
use Rattle.rules.specs.Handles.{grant_each}
use Rattle.terms.specs.Elements.{numbers}
use Rattle.steps.proofs.grant_each.Given as goal

abbrev pub invariant-loop-e : goal.invariant-loop-e
invariant-loop-e l = l.t ≡ grant_each l.initial.t l.p (take l.e-index (numbers l.entries))
