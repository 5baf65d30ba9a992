-- `commands::look_up` meets its contract: when handle i is reached the first i are held, and the entries are theirs with zeros after
-- them.
use Prim.Native.Nat.{◌<◌}
use native.Mathlib.Omega.{arith}
use mathlib.Core.Path.{◌≡◌, refl, ap, ◌∙◌}
use lib.ListN.{length-take}
use Rattle.rules.specs.Handles.{entry_of, holds_handle}
use Rattle.terms.proofs.Numbers.{numbers_set}
use Rattle.beside.specs.Beside.{numbers_beside}
use Rattle.commands.proofs.Arrays.{every_none, every_next, every_fails, beside_first, through_next, through_all}
use Rattle.commands.proofs.Ways.{held, held_at, unheld}
use Rattle.commands.proofs.look_up.Goals as goal

pub loop-i-init : goal.loop-i-init
loop-i-init c = (refl, every_none (holds_handle _ 0) (numbers_beside c.args.handles))

pub returns-in_err-entries : goal.returns-in_err-entries
returns-in_err-entries c =
    let hs = c.args.handles in
    let few : c.loop-i.i < c.args.count = omega (arith, length-take c.from.result hs, c.from.ensures) in
    let at = beside_first hs c.loop-i.i c.from.result (omega arith) (omega arith) in
    rw c.from_residual.ensures
    (every_fails (holds_handle _ 0) c.args.count c.loop-i.i (numbers_beside hs) few (omega arith)
    (ap (holds_handle _ 0) at ∙ unheld _ _ _ c.entry_of.ensures c.in_err-entries.was))

pub loop-i-preserved : goal.loop-i-preserved
loop-i-preserved c =
    let hs = c.args.handles in
    let p = c.entry_of.ensures in
    let few : c.loop-i.i < c.args.count = omega (arith, length-take c.from.result hs, c.from.ensures) in
    let at = beside_first hs c.loop-i.i c.from.result (omega arith) (omega arith) in (
      numbers_set c.loop-i.entries c.loop-i.i _
          ∙ rw (c.loop-i.invariant.0, ← held_at _ _ _ p _ c.in_ok-entries.was, ← at) (through_next (entry_of _ 0) c.loop-i.i (numbers_beside hs)),
      every_next (holds_handle _ 0) c.loop-i.i (numbers_beside hs) c.loop-i.invariant.1
          (ap (holds_handle _ 0) at ∙ held _ _ _ p _ c.in_ok-entries.was),
    )

pub returns : goal.returns
returns c =
    let four = c.well_formed.1.1.0.1.0.1 in
    let end : c.loop-i.i ≡ c.args.count = omega (arith, length-take c.from.result c.args.handles, c.from.ensures, four) in (
      rw end at c.loop-i.invariant.1,
      (rw end at c.loop-i.invariant.0) ∙ (through_all (entry_of _ 0) c.args.handles c.args.count c.requires).0,
    )
