-- `set_up::set_up` meets its contract: it goes the rule's way, and where the numbers or the run don't fit it does nothing.
use mathlib.Core.Path.{sym, ◌∙◌}
use Rattle.rules.proofs.AfterSetUp.{long}
use Rattle.set_up.proofs.Whole.{ready_said, refused_said}
use Rattle.set_up.proofs.set_up.Goals as goal

pub returns-then-not-set_up_fits : goal.returns-then-not-set_up_fits
returns-then-not-set_up_fits c =
    let both = refused_said _ _ _ _ (sym c.set_up_fits.ensures ∙ c.if-not-set_up_fits.true) in
    record { answer = both.0; table = both.1 }

pub empty_table-requires : goal.empty_table-requires
empty_table-requires c = long _ _ _ _ (sym c.set_up_fits.ensures ∙ c.if-not-set_up_fits.false)

pub returns : goal.returns
returns c =
    let both = ready_said _ _ _ _ _ _ _ (sym c.set_up_fits.ensures ∙ c.if-not-set_up_fits.false) c.empty_table.ensures c.add_all_keys.ensures
    c.used.ensures in
    record { answer = both.0; table = both.1 }
