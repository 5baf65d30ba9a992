-- `commands::look_up_two` meets its contract: both are held just where both look-ups find an entry.
use mathlib.Core.Path.{refl}
use Rattle.rules.proofs.Logic.{both}
use Rattle.commands.proofs.Ways.{held, held_at, unheld}
use Rattle.commands.proofs.look_up_two.Goals as goal

pub returns-in_err-entry_of : goal.returns-in_err-entry_of
returns-in_err-entry_of c = rw (c.from_residual.ensures, unheld _ _ _ c.entry_of.ensures c.in_err-entry_of.was) refl

pub returns-in_err-entry_of-2 : goal.returns-in_err-entry_of-2
returns-in_err-entry_of-2 c =
    rw (
      c.from_residual-in_err-entry_of-2.ensures,
      held _ _ _ c.entry_of.ensures _ c.in_ok-entry_of.was,
      unheld _ _ _ c.entry_of-2.ensures c.in_err-entry_of-2.was,
    ) refl

pub returns : goal.returns
returns c =
    let p = c.entry_of.ensures in
    let q = c.entry_of-2.ensures in (
      both (held _ _ _ p _ c.in_ok-entry_of.was) (held _ _ _ q _ c.in_ok-entry_of-2.was),
      held_at _ _ _ p _ c.in_ok-entry_of.was,
      held_at _ _ _ q _ c.in_ok-entry_of-2.was,
    )
