-- `steps::grant_each` meets its contract: after i turns the first i of the slice are granted.
use mathlib.Core.Path.{sym, ◌∙◌}
use Rattle.steps.proofs.Knowing.{grants_none, grants_more, grants_all}
use Rattle.steps.proofs.grant_each.Goals as goal

pub loop-e-init : goal.loop-e-init
loop-e-init c = grants_none _ _ c.args.entries.now

pub loop-e-preserved : goal.loop-e-preserved
loop-e-preserved c = let at = c.loop-e in
    c.grant.ensures ∙ rw at.invariant (sym (grants_more _ _ c.args.entries.now at.e-index (record { 0 = 0 }) c.loop-e-test.true))

pub returns : goal.returns
returns c = c.loop-e.invariant ∙ grants_all _ _ _ _ c.loop-e-test.false
