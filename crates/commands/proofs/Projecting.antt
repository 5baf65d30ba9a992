-- The ways that a projection goes (rule C4). Assumes nothing.
use Rattle.std.proofs.Common.{is_le, Less, Equal, Greater, cond}
use Prim.Native.Nat.{ℕ, ◌≤◌, ◌<◌}
use native.Mathlib.Omega.{arith}
use native.Mathlib.Decide.{dec_lt, ℕ_discrete}
use mathlib.Core.Path.{◌≡◌, refl, sym, ap, ◌∙◌}
use mathlib.Core.Bool.{true, false}
use lib.Dec.{eqb, ltb, leb}
use borrow.Author.Tests.{lt-ltb, le-ltb, le-leb, lt-leb, eq-eqb, ne_eqb, leb-true}
use Rattle.rules.specs.Table.{Table, type_at, count_at, argument}
use Rattle.rules.specs.Handles.{entry_of, holds_handle}
use Rattle.rules.specs.Outcome.{gives, refused, gives_handle}
use Rattle.rules.specs.Commands.{is_place, project_of, project}
use Rattle.rules.proofs.Logic.{and_right}
use Rattle.rules.proofs.Needs.{need_goes}
use Rattle.commands.proofs.Ways.{need_fails}

-- ---- of entry e, whose type is y and whose count is n
module _ (t : Table) (e i y : ℕ) (type : y ≡ type_at t e) where
  pub of_no_list : (y ≡ 3 → ⊥) → project_of t e i ≡ gives (refused 6) t
  unfolding project_of
  of_no_list p = need_fails 6 t _ (ne_eqb (type_at t e) 3 (λ q. p (type ∙ q)))

  module _ (list : y ≡ 3) (n : ℕ) (count : n ≡ count_at t e) where
    pub past_end : n < i → project_of t e i ≡ gives (refused 7) t
    unfolding project_of
    past_end p = need_goes 6 t _ (eq-eqb (type_at t e) 3 (sym type ∙ list)) ∙ need_fails 7 t _ (lt-leb i (count_at t e) (rw count at p))

    pub element : (x : ℕ) → i ≤ n → x ≡ argument t e i → project_of t e i ≡ gives_handle t x
    unfolding project_of
    element x p q =
        need_goes 6 t _ (eq-eqb (type_at t e) 3 (sym type ∙ list))
        ∙ need_goes 7 t _ (le-leb i (count_at t e) (rw count at p))
        ∙ ap (gives_handle t) (sym q)

-- ---- of handle h
module _ (t : Table) (h i : ℕ) where
  pub no_place : is_place i ≡ false → project t h i ≡ gives (refused 4) t
  unfolding project
  no_place p = need_fails 4 t _ p

  pub place_unheld : is_place i ≡ true → holds_handle t 0 h ≡ false → project t h i ≡ gives (refused 5) t
  unfolding project
  place_unheld p q = need_goes 4 t _ p ∙ need_fails 5 t _ q

  pub place_held : (e : ℕ) → is_place i ≡ true → holds_handle t 0 h ≡ true → entry_of t 0 h ≡ e → project t h i ≡ project_of t e i
  unfolding project
  place_held e p q r = need_goes 4 t _ p ∙ need_goes 5 t _ q ∙ ap (λ (x : ℕ). project_of t x i) r

pub place_small : (i : ℕ) → is_place i ≡ true → i ≤ 4
unfolding is_place
place_small i p = leb-true i 4 (and_right (leb 1 i) _ p)

-- ---- a range's test of one end
pub at_most : (a b : ℕ) → is_le (cond (ltb a b) Less (cond (eqb a b) Equal Greater)) ≡ leb a b
at_most a b = go (dec_lt a b) (ℕ_discrete a b)
  where
    go : Dec (a < b) → Dec (a ≡ b) → is_le (cond (ltb a b) Less (cond (eqb a b) Equal Greater)) ≡ leb a b
    go (yes l) q = rw (lt-ltb a b l, le-leb a b (omega arith)) refl
    go (no g) (yes q) = rw (le-ltb a b (omega arith), eq-eqb a b q, le-leb a b (omega arith)) refl
    go (no g) (no q) = rw (le-ltb a b (omega arith), ne_eqb a b q, lt-leb a b (omega arith)) refl
