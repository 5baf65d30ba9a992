-- When performing is acting, and when it is refusing; and parse's table. Assumes nothing.
use Prim.Native.Nat.{ℕ}
use mathlib.Core.Path.{◌≡◌, refl, sym}
use mathlib.Core.Bool.{true, false}
use Rattle.rules.specs.Table.{Table}
use Rattle.rules.specs.Commands.{parse, parse_of}
use Rattle.rules.specs.WellFormed.{well_formed}
use Rattle.rules.specs.Outcome.{gives, refused}
use Rattle.rules.specs.Machine.{Record, SetUp, Asks, perform, untested}
use Rattle.rules.proofs.Keeps.{need_same, not_formed, is_formed}
use Rattle.machine.specs.SetUps.{is_set_up}

pub parse_table : (t : Table) (h : ℕ) → t ≡ (parse t h).table
unfolding parse parse_of
parse_table t h = sym (need_same _ 5 t _ refl)

-- ---- a record on a table
module _ (t : Table) where
  pub known_formed : (r : Record) → well_formed t ≡ true → perform r t ≡ untested r t
  unfolding untested perform
  known_formed (SetUp n m c) w = refl
  known_formed (Asks r) w = is_formed r t w

  pub known_set_up : (r : Record) → true ≡ is_set_up r → perform r t ≡ untested r t
  unfolding untested perform is_set_up
  known_set_up (SetUp n m c) p = refl
  known_set_up (Asks r) p = cc

  pub known_refused : (r : Record) → well_formed t ≡ false → false ≡ is_set_up r → perform r t ≡ gives (refused 1) t
  unfolding perform is_set_up
  known_refused (SetUp n m c) w p = cc
  known_refused (Asks r) w p = not_formed r t w
