-- Each knower's handles, counted row by row: the words that a turn reads, and the counts after it. Assumes nothing.
use Rattle.std.specs.Prelude.{if◌then◌else◌}
use Prim.Native.Nat.{ℕ, ◌+◌, ◌*◌, ◌≤◌, ◌<◌}
use native.Mathlib.Nat.{mul-le-mul_left}
use native.Mathlib.Omega.{arith}
use native.Mathlib.Decide.{ℕ_discrete, dec_le}
use mathlib.Core.Path.{◌≡◌, refl, sym, ap, ◌∙◌}
use mathlib.Core.Bool.{Bool, true, false, not, ◌&&◌}
use mathlib.Core.List.{List}
use mir.Val.{bool_byte}
use lib.Dec.{eqb, leb, ltb}
use lib.ListN.{length, get_or, set, replicate, length-set, get_or-replicate}
use lib.Seq.{get_or-set_same, get_or-set_other}
use borrow.Author.Count.{below_more}
use borrow.Author.Tests.{leb-true, le-leb, le-ltb, lt-leb, lt-ltb}
use Rattle.rules.specs.Choice.{◌or◌, count}
use Rattle.rules.specs.Table.{Table, size, most, row_width, words_for, version, participants, capacity, word, used, next_handle, handle, every_knower}
use Rattle.rules.specs.Handles.{holds, held}
use Rattle.rules.specs.WellFormed.{run_is_long, head_fits, used_fits, may_hold, handle_is_below, handles_fit}
use Rattle.rules.proofs.Logic.{and_right, never, fails}
use Rattle.rules.proofs.Walks.{all_at, count_next}
use Rattle.rules.proofs.Words.{most_high, word_head}
use Rattle.rules.proofs.Shaping.{head_plain}
use Rattle.rules.proofs.Granting.{handle_in, next_in}
use Rattle.rules.proofs.Formed.{words_for_lem, knower_at, knower_from, knower_fails}
use Rattle.formed.specs.Counts.{Counts, handle_is_below_at, handles_are_below}

-- ---- the words of knower k that a turn reads
module _ (t : Table) (k : ℕ) (known : k ≤ most t) where
  handle_there : (w e : ℕ) → w ≡ row_width t → handle t k e ≡ get_or t (w * e + 7 + k) 0
  unfolding word
  handle_there w e q = handle_in t k e known ∙ rw q (ap (λ (i : ℕ). get_or t i 0) (omega arith))

  next_there : next_handle t k ≡ get_or t (5 + k) 0
  next_there = next_in t k known ∙ word_head t (5 + k)

  module _ (w e h : ℕ) (isWidth : w ≡ row_width t) (isHandle : h ≡ get_or t (w * e + 7 + k) 0) where
    pub below_is : handle_is_below t k e ≡ ltb h (get_or t (5 + k) 0)
    unfolding handle_is_below
    below_is = rw (handle_there w e isWidth, next_there, ← isHandle) refl

    pub held_is : holds t k e ≡ not (eqb h 0)
    unfolding holds
    held_is = rw (handle_there w e isWidth, ← isHandle) refl

-- ---- a test as a number
pub one_at_most : (b : Bool) → bool_byte b ≤ 1
one_at_most true = omega arith
one_at_most false = omega arith

one_if : (b : Bool) → bool_byte b ≡ (if b then 1 else 0)
one_if true = refl
one_if false = refl

-- ---- the counts before the first entry
pub none_counted : (t : Table) → Counts t 0 (replicate 13 0)
unfolding count
none_counted t = record { long = refl; at = λ k known. get_or-replicate {A = ℕ} 13 k 0 0 (omega (arith, most_high t)) }

-- ---- the counts within a row: entry e + 1 is counted for the knowers below k
pub record Turned (t : Table) (e k : ℕ) (ns : List ℕ) : Type 0 where
  pub long : length ns ≡ 13
  pub done : (j : ℕ) → j < k → get_or ns j 0 ≡ count (holds t j) (e + 1)
  pub left : (j : ℕ) → k ≤ j → j ≤ most t → get_or ns j 0 ≡ count (holds t j) e

pub turned : (t : Table) (e k one : ℕ) (ns : List ℕ) → k ≤ most t → one ≡ bool_byte (holds t k (e + 1))
    → Turned t e k ns → Turned t e (k + 1) (set ns k (get_or ns k 0 + one))
turned t e k one ns known q b = record {
  long = length-set ns k _ ∙ b.long;
  done = λ j l. go j l (ℕ_discrete j k);
  left = λ j l l'. get_or-set_other ns k j _ 0 (λ z. omega arith) ∙ b.left j (omega arith) l';
}
  where
    here : get_or (set ns k (get_or ns k 0 + one)) k 0 ≡ count (holds t k) (e + 1)
    here = get_or-set_same ns k _ 0 (omega (arith, most_high t, b.long)) ∙ rw (count_next, b.left k (omega arith) known, q, one_if) refl

    go : (j : ℕ) → j < k + 1 → Dec (j ≡ k) → get_or (set ns k (get_or ns k 0 + one)) j 0 ≡ count (holds t j) (e + 1)
    go j l (yes z) = rw z here
    go j l (no z) = get_or-set_other ns k j _ 0 z ∙ b.done j (omega arith)

-- ---- b says whether all knowers below k pass the test
pub data Passed (f : ℕ → Bool) (k : ℕ) (b : Bool) : Type 0 where
  each : b ≡ true → ((j : ℕ) → j < k → f j ≡ true) → Passed f k b
  not_each : b ≡ false → (j : ℕ) → j < k → f j ≡ false → Passed f k b

pub passed_next : (f : ℕ → Bool) (k : ℕ) (b x : Bool) → f k ≡ x → Passed f k b → Passed f (k + 1) (b && x)
passed_next f k b true q (each p h) = each (rw p refl) (below_more _ k h q)
passed_next f k b false q (each p h) = not_each (rw p refl) k (omega arith) q
passed_next f k b x q (not_each p j l h) = not_each (rw p refl) j (omega arith) h

-- a test asked the other way round
pub not_leb : (h n : ℕ) → not (leb n h) ≡ ltb h n
not_leb h n = go (dec_le n h)
  where
    go : Dec (n ≤ h) → not (leb n h) ≡ ltb h n
    go (yes l) = rw (le-leb n h l, le-ltb h n l) refl
    go (no l) = let l' : h < n = omega arith in rw (lt-leb n h l', lt-ltb h n l') refl

pub passed_all : (t : Table) (f : ℕ → Bool) (k : ℕ) {b : Bool} → k ≡ most t + 1 → Passed f k b → b ≡ every_knower t f
passed_all t f k z (each p h) = p ∙ sym (knower_from t f (λ j l. h j (omega arith)))
passed_all t f k z (not_each p j l h) = p ∙ sym (knower_fails t f j (omega arith) h)

-- ---- what the rows say of the knowers
module _ (t : Table) where
  -- a test that some knower fails, and one that no such knower passes
  knowers_fail : (f g : ℕ → Bool) → ((k : ℕ) → k ≤ most t → g k ≡ true → f k ≡ true) → every_knower t f ≡ false → every_knower t g ≡ false
  knowers_fail f g h q = fails (every_knower t g) (λ p. never (knower_from t f (λ k known. h k known (knower_at t g p k known))) q)

  -- a handle on a used entry that isn't below its knower's next one
  pub row_fails : (e : ℕ) → e < used t → every_knower t (handle_is_below_at t (e + 1)) ≡ false
      → every_knower t (handles_are_below t (used t)) ≡ false
  row_fails e l = knowers_fail _ _ (λ k known p. all_at (handle_is_below t k) (used t) p (e + 1) (omega arith) (omega arith))

  pub rows_fail : every_knower t (handles_are_below t (used t)) ≡ false → every_knower t (handles_fit t) ≡ false
  unfolding handles_fit
  rows_fail = knowers_fail _ _
      (λ k known p. and_right (eqb (next_handle t k) (1 + held t k)) _ (and_right (may_hold t k or eqb (held t k) 0) _ p))

  -- W2: there is room for the participants
  pub few : head_fits t ≡ true → participants t ≤ most t
  few h = (head_plain t h).few

  -- W1 and W3: the rows of the used entries lie in the run
  pub used_inside : run_is_long t ≡ true → used_fits t ≡ true → row_width t * used t + row_width t ≤ size t
  unfolding run_is_long used_fits
  used_inside h h' =
      let long : words_for (version t) (capacity t) ≤ size t = leb-true _ _ (and_right (leb (row_width t) (size t)) _ h) in
      let room : used t ≤ capacity t = leb-true _ _ (and_right (leb (2 * participants t) (used t)) _ h') in
      omega (arith, rw words_for_lem at long, mul-le-mul_left (row_width t) room)
