-- What the player keeps in mind is true: whether its table is well formed is known before and after each record, and so is what a record
-- may be where it stands. Assumes nothing.
use Rattle.std.specs.Prelude.{if◌then◌else◌}
use Prim.Native.Nat.{ℕ}
use mathlib.Core.Path.{◌≡◌, refl, sym, ◌∙◌}
use mathlib.Core.Bool.{Bool, true, false, not, beq}
use mathlib.Core.List.{List}
use lib.Dec.{eqb}
use lib.ListN.{get_or}
use Rattle.rules.specs.Table.{Table, used}
use Rattle.rules.specs.SetUp.{set_up_fits, set_up_table}
use Rattle.rules.specs.WellFormed.{well_formed}
use Rattle.rules.specs.Outcome.{Outcome, gives, need, ready, refused}
use Rattle.rules.specs.Machine.{Request, Record, SetUp, Asks, step, set_up, perform}
use Rattle.rules.specs.Session.{stands_right}
use Rattle.rules.proofs.Keeps.{not_formed}
use Rattle.rules.proofs.Stays.{step_formed}
use Rattle.rules.proofs.SetUpFormed.{set_up_formed}
use Rattle.machine.specs.SetUps.{is_set_up}
use Rattle.player.specs.Known.{formed_after}

-- ---- what is known of the table
module _ (t : Table) where
  after_formed : (a : List ℕ) → formed_after true a ≡ true
  unfolding formed_after
  after_formed a = go (eqb (get_or a 0 0) 1)
    where
      go : (b : Bool) → (if b then true else true) ≡ true
      go true = refl
      go false = refl

  after_refused : formed_after (well_formed t) (refused 1) ≡ well_formed t
  unfolding formed_after
  after_refused = refl

  set_up_known : (n m c : ℕ) → formed_after (well_formed t) (set_up n m c t).answer ≡ well_formed (set_up n m c t).table
  unfolding set_up need formed_after
  set_up_known n m c = go (set_up_fits t n m c) refl
    where
      leaves : Bool → Outcome
      leaves b = if b then gives (ready (used (set_up_table t n m c))) (set_up_table t n m c) else gives (refused 2) t

      go : (b : Bool) → set_up_fits t n m c ≡ b → formed_after (well_formed t) (leaves b).answer ≡ well_formed (leaves b).table
      go true f = sym (set_up_formed n m c t f)
      go false f = refl

  step_known : (r : Request) → formed_after (well_formed t) (step r t).answer ≡ well_formed (step r t).table
  step_known r = go (well_formed t) refl
    where
      go : (b : Bool) → well_formed t ≡ b → formed_after (well_formed t) (step r t).answer ≡ well_formed (step r t).table
      go true w = rw w (after_formed (step r t).answer ∙ sym (step_formed r t w))
      go false w = rw (not_formed r t w) after_refused

  -- after each record it is known again
  pub stays_known : (r : Record) → formed_after (well_formed t) (perform r t).answer ≡ well_formed (perform r t).table
  unfolding perform
  stays_known (SetUp n m c) = set_up_known n m c
  stays_known (Asks r) = step_known r

-- ---- where a record stands
same_as_true : (b : Bool) → beq true b ≡ b
same_as_true true = refl
same_as_true false = refl

same_as_false : (b : Bool) → beq false b ≡ not b
same_as_false true = refl
same_as_false false = refl

pub stands : (place : ℕ) (r : Record) → beq (is_set_up r) (eqb place 1) ≡ stands_right r place
unfolding is_set_up stands_right
stands place (SetUp n m c) = same_as_true (eqb place 1)
stands place (Asks r) = same_as_false (eqb place 1)
