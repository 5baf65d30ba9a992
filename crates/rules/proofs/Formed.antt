-- A well-formed table, clause by clause over all its keys, entries and knowers: `well_formed` walks over them, so it says the same as
-- this record. What can change for a knower is in plain facts; what stays by its words is left as its test. Assumes nothing.
use Prim.Native.Nat.{ℕ, zero, suc, ◌+◌, ◌*◌, ◌≤◌, ◌<◌}
use native.Mathlib.Omega.{arith}
use native.Mathlib.Decide.{dec_le}
use mathlib.Core.Path.{◌≡◌, refl}
use mathlib.Core.Bool.{Bool, true, false}
use lib.Dec.{eqb, leb}
use borrow.Author.Tests.{leb-true, le-leb, ltb-true, lt-ltb, eqb-true, eq-eqb}
use Rattle.rules.specs.Choice.{◌or◌, all, count}
use Rattle.rules.specs.Table.{Table, size, most, row_width, words_for, version, participants, capacity, used, next_handle, every_knower}
use Rattle.rules.specs.Handles.{holds, held}
use Rattle.rules.specs.WellFormed.{run_is_long, head_fits, used_fits, keys_fit, entry_fits, may_hold, handle_is_below, handles_fit, well_formed}
use Rattle.rules.proofs.Logic.{and_left, and_right, both, or_right, never, fails}
use Rattle.rules.proofs.Walks.{all_at, all_from, count_stop}
use Rattle.rules.proofs.Words.{most_of_lem}
use Rattle.rules.proofs.Granting.{none_holds, handle_out, next_out}
use Rattle.rules.proofs.Shaped.{Used, Person}
use Rattle.rules.proofs.Counted.{Counted}

-- W11, of one knower
pub record Knower (t : Table) (k : ℕ) : Type 0 where
  pub may : may_hold t k or eqb (held t k) 0 ≡ true
  pub counted : Counted t k

pub record Formed (t : Table) : Type 0 where
  pub long : row_width t + row_width t * capacity t ≤ size t
  pub head : head_fits t ≡ true
  pub keyed : 2 * participants t ≤ used t
  pub room : used t ≤ capacity t
  pub keys : (p : ℕ) → Person t p → keys_fit t p ≡ true
  pub entries : (e : ℕ) → Used t e → entry_fits t e ≡ true
  pub knowers : (k : ℕ) → Knower t k

-- ---- walks over the knowers of the form
pub knower_at : (t : Table) (f : ℕ → Bool) → every_knower t f ≡ true → (k : ℕ) → k ≤ most t → f k ≡ true
unfolding every_knower
knower_at t f h zero l = and_left (f 0) (all f (most t)) h
knower_at t f h (suc k) l = all_at f (most t) (and_right (f 0) (all f (most t)) h) (suc k) (omega arith) l

pub knower_from : (t : Table) (f : ℕ → Bool) → ((k : ℕ) → k ≤ most t → f k ≡ true) → every_knower t f ≡ true
unfolding every_knower
knower_from t f h = both (h 0 (omega arith)) (all_from f (most t) (λ k a b. h k b))

pub knower_fails : (t : Table) (f : ℕ → Bool) (k : ℕ) → k ≤ most t → f k ≡ false → every_knower t f ≡ false
knower_fails t f k l q = fails (every_knower t f) (λ h. never (knower_at t f h k l) q)

-- ---- one knower
-- a knower past the form's holds nothing
knower_out : (t : Table) (k : ℕ) → most t < k → Knower t k
unfolding held count
knower_out t k h = record {
  may = rw none (or_right (may_hold t k) true refl);
  counted = record { next = rw none (next_out t k h); below = λ e u. omega (arith, handle_out t k e h, next_out t k h) };
}
  where
    none : held t k ≡ 0
    none = count_stop (holds t k) 0 (used t) (omega arith) (λ e a b. none_holds t k e (handle_out t k e h))

handles_plain : (t : Table) (k : ℕ) → handles_fit t k ≡ true → Knower t k
unfolding handles_fit handle_is_below
handles_plain t k h =
    let rest = and_right (may_hold t k or eqb (held t k) 0) _ h in
    record {
      may = and_left _ _ h;
      counted = record {
        next = eqb-true _ _ (and_left _ _ rest);
        below = λ e u.
            ltb-true _ _ (all_at (handle_is_below t k) (used t) (and_right (eqb (next_handle t k) (1 + held t k)) _ rest) e u.low u.high);
      };
    }

handles_test : (t : Table) (k : ℕ) → Knower t k → handles_fit t k ≡ true
unfolding handles_fit handle_is_below
handles_test t k n =
    both n.may
    (both (eq-eqb _ _ n.counted.next)
    (all_from (handle_is_below t k) (used t) (λ e a b. lt-ltb _ _ (n.counted.below e (record { low = a; high = b })))))

knower_of : (t : Table) → every_knower t (handles_fit t) ≡ true → (k : ℕ) → Dec (k ≤ most t) → Knower t k
knower_of t h k (yes l) = handles_plain t k (knower_at t (handles_fit t) h k l)
knower_of t h k (no l) = knower_out t k (omega arith)

-- ---- the whole
pub words_for_lem : (t : Table) → words_for (version t) (capacity t) ≡ row_width t + row_width t * capacity t
unfolding words_for
words_for_lem t = rw (most_of_lem t) refl

pub formed : (t : Table) → well_formed t ≡ true → Formed t
unfolding well_formed run_is_long used_fits
formed t h =
    let h₁ = and_right (run_is_long t) _ h in
    let h₂ = and_right (head_fits t) _ h₁ in
    let h₃ = and_right (used_fits t) _ h₂ in
    let h₄ = and_right (all (keys_fit t) (participants t)) _ h₃ in
    let runs : run_is_long t ≡ true = and_left _ _ h in
    let long : words_for (version t) (capacity t) ≤ size t = leb-true _ _ (and_right (leb (row_width t) (size t)) _ runs) in
    let fits : used_fits t ≡ true = and_left _ _ h₂ in
    record {
      long = rw words_for_lem at long;
      head = and_left _ _ h₁;
      keyed = leb-true _ _ (and_left _ _ fits);
      room = leb-true _ _ (and_right (leb (2 * participants t) (used t)) _ fits);
      keys = λ p w. all_at (keys_fit t) (participants t) (and_left _ _ h₃) p w.low w.high;
      entries = λ e u. all_at (entry_fits t) (used t) (and_left _ _ h₄) e u.low u.high;
      knowers = λ k. knower_of t (and_right (all (entry_fits t) (used t)) _ h₄) k (dec_le k (most t));
    }

pub well_formed_lem : (t : Table) → Formed t → well_formed t ≡ true
unfolding well_formed run_is_long used_fits
well_formed_lem t f =
    let long : words_for (version t) (capacity t) ≤ size t = rw words_for_lem f.long in
    both (both (le-leb (row_width t) (size t) (omega (arith, f.long))) (le-leb _ _ long))
    (both f.head
    (both (both (le-leb _ _ f.keyed) (le-leb _ _ f.room))
    (both (all_from (keys_fit t) (participants t) (λ p a b. f.keys p (record { low = a; high = b })))
    (both (all_from (entry_fits t) (used t) (λ e a b. f.entries e (record { low = a; high = b })))
    (knower_from t (handles_fit t) (λ k l. handles_test t k (f.knowers k)))))))
