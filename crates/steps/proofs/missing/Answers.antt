-- `steps::missing` meets its contract: one where nothing was found, else none.
use Rattle.std.specs.Prelude.{Option, Some, None}
use Rattle.std.specs.Option.{is_some}
use Prim.Native.Nat.{ℕ, ◌+◌}
use mathlib.Core.Path.{◌≡◌, refl}
use mathlib.Core.Bool.{Bool, true, false, not}
use mir.Val.{bool_byte}
use lib.ListN.{length}
use Rattle.rules.specs.declared.Entry.{Entry}
use Rattle.rules.specs.Meaning.{found_at}
use Rattle.rules.proofs.Logic.{never}
use Rattle.steps.proofs.missing.Goals as goal

by_found : (o : Option Entry) (b : Bool) (n : ℕ) → is_some o ≡ not b → n ≡ bool_byte b → n + length (found_at o) ≡ 1
unfolding found_at
by_found (Some e) true n p q = never refl p
by_found (Some e) false n p q = rw q refl
by_found None true n p q = rw q refl
by_found None false n p q = never p refl

pub returns : goal.returns
returns c = by_found _ _ _ c.is_none.ensures c.from.ensures
