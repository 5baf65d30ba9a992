-- `handles::grant` meets its contract: it goes the rule's way, word by word.
use mathlib.Core.Path.{sym, ◌∙◌}
use Rattle.rules.proofs.Granting.{grant_held, grant_goes}
use Rattle.handles.proofs.grant.Goals as goal

pub returns-then-holds : goal.returns-then-holds
returns-then-holds c = sym (grant_held _ _ _ (sym c.holds.ensures ∙ c.if-holds.true))

pub returns : goal.returns
returns c =
    grant_goes _ _ _ _ _ _ _ (sym c.holds.ensures ∙ c.if-holds.false)
    c.next_handle-h.ensures c.set_handle.ensures c.raised.ensures c.set_next_handle.ensures
