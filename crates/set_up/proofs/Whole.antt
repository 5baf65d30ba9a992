-- Set-up as a whole: where the numbers and the run fit, and where they don't. Assumes nothing.
use Rattle.std.specs.Prelude.{Ok, Err}
use Prim.Native.Nat.{ℕ}
use mathlib.Core.Path.{◌≡◌, refl}
use mathlib.Core.Bool.{true, false}
use Rattle.rules.specs.Table.{Table, used}
use Rattle.rules.specs.SetUp.{set_up_fits, empty_table, add_all_keys, set_up_table}
use Rattle.rules.specs.Outcome.{need}
use Rattle.rules.specs.Machine.{set_up}
use Rattle.rules.specs.Meaning.{said}
use Rattle.rules.specs.declared.Reply.TheVariants.{Ready}

module _ (t : Table) (n m c : ℕ) where
  pub ready_said : (s s' : Table) (u : ℕ) → set_up_fits t n m c ≡ true → s ≡ empty_table t n m c → s' ≡ add_all_keys s m n → u ≡ used s'
      → (said (Ok (Ready u)) ≡ (set_up n m c t).answer) × (s' ≡ (set_up n m c t).table)
  unfolding said set_up need set_up_table
  ready_said s s' u h a b d = (rw (h, ← a, ← b, d) refl, rw (h, ← a, b) refl)

  pub refused_said : set_up_fits t n m c ≡ false → (said (Err (record { 0 = 2 })) ≡ (set_up n m c t).answer) × (t ≡ (set_up n m c t).table)
  unfolding said set_up need
  refused_said h = (rw h refl, rw h refl)
