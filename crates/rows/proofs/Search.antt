-- The search of the used entries by two words: where it may stop, and what its answer says of any test that only such entries pass.
-- Assumes nothing.
use Rattle.std.specs.Prelude.{Option, Some, None, if◌then◌else◌}
use Prim.Native.Nat.{ℕ, ◌+◌, ◌*◌, ◌/◌, ◌≤◌, ◌<◌}
use native.Mathlib.Nat.{mul-suc, mul-le-mul_left, mul-div_cancel_left}
use native.Mathlib.Numerals.{add-one}
use native.Mathlib.Omega.{arith}
use native.Mathlib.Decide.{dec_le, dec_lt, ℕ_discrete}
use mathlib.Core.Path.{◌≡◌, refl, sym, ap, ◌∙◌}
use mathlib.Core.Logic.{◌≢◌}
use mathlib.Core.Bool.{Bool, true, false}
use mathlib.Core.List.{[], ◌∷◌}
use lib.Dec.{eqb, ltb}
use borrow.Author.Tests.{ltb-true, lt-ltb, eq-eqb, ne_eqb}
use lib.ListN.{get_or}
use Rattle.rules.specs.Choice.{◌and◌, lowest}
use Rattle.rules.specs.Table.{Table, row_width, word, used}
use Rattle.rules.specs.Meaning.{found_at, or_nothing}
use Rattle.rules.specs.declared.Entry.{Entry}
use Rattle.rules.proofs.Logic.{and_left, and_right, both, never, fails}
use Rattle.rules.proofs.Walks.{Lowest, nowhere, somewhere, lowest_is, lowest_first, lowest_same}
use Rattle.rules.proofs.Meaning.{scan_found, scan_nothing}
use Rattle.rows.specs.Search.{has_both, passes_above, next_with, NoneTo, Reached, Passes}

-- ---- no number of 1 to n passes the test
module _ (f : ℕ → Bool) (n : ℕ) where
  pub lowest_none : ((x : ℕ) → 1 ≤ x → x ≤ n → f x ≡ true → ⊥) → lowest f n ≡ 0
  lowest_none h = go (lowest f n) (lowest_is f n)
    where
      go : (r : ℕ) → Lowest f n r → r ≡ 0
      go r (nowhere z m) = z
      go r (somewhere a b p m) = absurd (h r a b p)

  none_lowest : lowest f n ≡ 0 → (x : ℕ) → 1 ≤ x → x ≤ n → f x ≡ true → ⊥
  none_lowest z x a b p = go (lowest f n) (lowest_is f n) z
    where
      go : (r : ℕ) → Lowest f n r → r ≡ 0 → ⊥
      go r (nowhere q m) e = never p (m x a b)
      go r (somewhere i j q m) e = omega arith

-- ---- where the search may stop: of those above e none up to here passes the test
module _ (e : ℕ) (f : ℕ → Bool) where
  pub none_yet : NoneTo e f e
  none_yet x a b = absurd (omega arith)

  pub none_more : (n : ℕ) → NoneTo e f n → f (n + 1) ≡ false → NoneTo e f (n + 1)
  none_more n g h x a b = go (dec_le x n)
    where
      go : Dec (x ≤ n) → f x ≡ false
      go (yes l) = g x a l
      go (no l) = let q : x ≡ n + 1 = omega arith in rw q h

  none_above : (n : ℕ) → NoneTo e f n → (x : ℕ) → 1 ≤ x → x ≤ n → passes_above e f x ≡ true → ⊥
  none_above n g x a b p = never (and_right (ltb e x) _ p) (g x (ltb-true e x (and_left (ltb e x) _ p)) b)

module _ (t : Table) (e k v j w : ℕ) where
  -- past the used entries
  pub next_nothing : (n : ℕ) → used t ≤ n → NoneTo e (has_both t k v j w) n → [] ≡ or_nothing (next_with t e k v j w)
  unfolding next_with
  next_nothing n l g = scan_nothing _ (used t) (lowest_none _ (used t) (λ x a b. none_above e _ n g x a (omega arith)))

  -- at a used entry that has both
  pub next_found : (n : ℕ) → e ≤ n → n + 1 ≤ used t → NoneTo e (has_both t k v j w) n → has_both t k v j w (n + 1) ≡ true
      → (n + 1) ∷ [] ≡ or_nothing (next_with t e k v j w)
  unfolding next_with
  next_found n i l g q = scan_found _ (used t) n l (lowest_none _ n (none_above e _ n g)) (both (lt-ltb e (n + 1) (omega arith)) q)

  -- ---- by places: m is the width of a row
  pub reached_first : (m : ℕ) → m ≡ row_width t → Reached t e (has_both t k v j w) (m * e)
  reached_first m q = rw q (record { row = e; place = refl; from = omega arith; none = none_yet e _ })

  module _ (m at : ℕ) (width : m ≡ row_width t) (r : Reached t e (has_both t k v j w) at) where
    place_more : at + m ≡ m * (r.row + 1)
    place_more = rw (add-one, mul-suc) (omega (arith, rw (← width) at r.place))

    row_more : (at + m) / m ≡ r.row + 1
    row_more = rw place_more (mul-div_cancel_left (r.row + 1) (omega arith))

    module _ (last : ℕ) (ends : last ≡ m * used t) where
      row_used : at < last → r.row + 1 ≤ used t
      row_used l = go (dec_le (used t) r.row)
        where
          go : Dec (used t ≤ r.row) → r.row + 1 ≤ used t
          go (yes h) = absurd (omega (arith, mul-le-mul_left m h, rw (← width) at r.place))
          go (no h) = omega arith

      -- before the last there is one more
      pub more_fits : at < last → at + m ≤ last
      more_fits l = omega (arith, place_more, mul-le-mul_left m (row_used l))

      pub found_low : at < last → (at + m) / m ≤ used t
      found_low l = rw row_more (row_used l)

      pub reached_last : last ≤ at → [] ≡ or_nothing (next_with t e k v j w)
      reached_last l = next_nothing r.row (go (dec_le (used t) r.row)) r.none
        where
          go : Dec (used t ≤ r.row) → used t ≤ r.row
          go (yes h) = h
          go (no h) =
              let i : r.row + 1 ≤ used t = omega arith in
              absurd (omega (arith, place_more, mul-le-mul_left m i))

    -- the words that are read at the next place are the next row's
    module _ (b : Bool) (read : b ≡ eqb (get_or t (at + m + k) 0) v and eqb (get_or t (at + m + j) 0) w) where
      both_more : b ≡ has_both t k v j w (r.row + 1)
      unfolding has_both word
      both_more = rw (← width, ← place_more) read

      -- one row further
      pub reached_more : b ≡ false → Reached t e (has_both t k v j w) (at + m)
      reached_more h = record {
        row = r.row + 1;
        place = rw (← width) place_more;
        from = omega arith;
        none = none_more e _ r.row r.none (sym both_more ∙ h);
      }

      -- the last used row starts at `last`
      pub reached_found : (last : ℕ) → last ≡ m * used t → at < last → b ≡ true → ((at + m) / m) ∷ [] ≡ or_nothing (next_with t e k v j w)
      reached_found last ends l q = rw row_more (next_found r.row r.from (row_used last ends l) r.none (sym both_more ∙ q))

-- ---- a row that has another first word is passed, whatever the other is
pub passes_more : (t : Table) (k v m from at : ℕ) → m ≡ row_width t → get_or t (at + m + k) 0 ≢ v → Passes t k v from at
    → Passes t k v from (at + m)
passes_more t k v m from at width h p e j w r =
    reached_more t e k v j w m at width (p e j w r) _ refl (rw (ne_eqb (get_or t (at + m + k) 0) v h) refl)

-- ---- a search's answer, in the arm that it is matched in
pub found : (n : ℕ) (f : Option Entry) (e : Entry) → found_at f ≡ or_nothing n → f ≡ Some e → (n ≡ 0 → ⊥) × (n ≡ e.0)
unfolding found_at or_nothing
found n f e p q = go (ℕ_discrete n 0) (rw q at p)
  where
    go : Dec (n ≡ 0) → e.0 ∷ [] ≡ (if eqb n 0 then [] else n ∷ []) → (n ≡ 0 → ⊥) × (n ≡ e.0)
    go (yes z) r = absurd (let w : ◌≡◌ {A = ℕ} 0 1 = let s : e.0 ∷ [] ≡ [] = rw (eq-eqb n 0 z) at r in cc in omega arith)
    go (no z) r = (z, let s : e.0 ∷ [] ≡ n ∷ [] = rw (ne_eqb n 0 z) at r in cc)

pub nothing : (n : ℕ) (f : Option Entry) → found_at f ≡ or_nothing n → f ≡ None → n ≡ 0
unfolding found_at or_nothing
nothing n f p q = go (ℕ_discrete n 0) (rw q at p)
  where
    go : Dec (n ≡ 0) → [] ≡ (if eqb n 0 then [] else n ∷ []) → n ≡ 0
    go (yes z) r = z
    go (no z) r = absurd (let w : ◌≡◌ {A = ℕ} 0 1 = let s : [] ≡ n ∷ [] = rw (ne_eqb n 0 z) at r in cc in omega arith)

-- ---- a test that is just these two words'
pub next_of_all : (t : Table) (f : ℕ → Bool) (k v j w : ℕ) → ((x : ℕ) → f x ≡ has_both t k v j w x)
    → next_with t 0 k v j w ≡ lowest f (used t)
unfolding next_with
next_of_all t f k v j w h = lowest_same _ f (used t) (λ x a b. rw (lt-ltb 0 x a) (sym (h x)))

-- ---- a stricter test: whatever passes has both words; none up to e passes, and r is the next that has both
module _ (t : Table) (f : ℕ → Bool) (k v j w : ℕ) (has : (x : ℕ) → f x ≡ true → has_both t k v j w x ≡ true)
    (e : ℕ) (past : lowest f e ≡ 0) (r : Option Entry) (next : found_at r ≡ or_nothing (next_with t e k v j w)) where
  abbrev above : ℕ → Bool
  above x = passes_above e (has_both t k v j w) x

  next_is : Lowest above (used t) (next_with t e k v j w)
  unfolding next_with
  next_is = lowest_is above (used t)

  -- what passes is not up to e, so it is above e and has both
  passes_above_lem : (x : ℕ) → 1 ≤ x → f x ≡ true → above x ≡ true
  passes_above_lem x a p = go (dec_le x e)
    where
      go : Dec (x ≤ e) → above x ≡ true
      go (yes l) = absurd (none_lowest f e past x a l p)
      go (no l) = both (lt-ltb e x (omega arith)) (has x p)

  pub none_passes : r ≡ None → [] ≡ or_nothing (lowest f (used t))
  none_passes h = scan_nothing f (used t) (go (next_with t e k v j w) next_is (nothing _ r next h))
    where
      go : (n : ℕ) → Lowest above (used t) n → n ≡ 0 → lowest f (used t) ≡ 0
      go n (nowhere z m) q = lowest_none f (used t) (λ x a b p. never (passes_above_lem x a p) (m x a b))
      go n (somewhere a b p m) q = absurd (omega arith)

  module _ (x : Entry) (is : r ≡ Some x) where
    at_next : Lowest above (used t) x.0
    at_next = rw (found _ r x next is).1 at next_is

    not_zero : x.0 ≡ 0 → ⊥
    not_zero z = (found _ r x next is).0 ((found _ r x next is).1 ∙ z)

    pub next_used : (e < x.0) × (x.0 ≤ used t)
    next_used = go at_next
      where
        go : Lowest above (used t) x.0 → (e < x.0) × (x.0 ≤ used t)
        go (nowhere z m) = absurd (not_zero z)
        go (somewhere a b p m) = (ltb-true e x.0 (and_left (ltb e x.0) _ p), b)

    none_below : (y : ℕ) → 1 ≤ y → y < x.0 → f y ≡ true → ⊥
    none_below y i l h = go at_next
      where
        go : Lowest above (used t) x.0 → ⊥
        go (nowhere z m) = not_zero z
        go (somewhere a b p m) = never (passes_above_lem y i h) (m y i l)

    -- it passes: the lowest that does
    pub next_passes : f x.0 ≡ true → x.0 ∷ [] ≡ or_nothing (lowest f (used t))
    unfolding or_nothing
    next_passes p =
        let q : lowest f (used t) ≡ x.0 = lowest_first f (used t) x.0 (omega (arith, next_used.0)) next_used.1 p
        (λ y a b. fails (f y) (none_below y a b)) in
        rw (q, ne_eqb x.0 0 not_zero) refl

    -- it does not: the search goes on from it
    pub next_fails : f x.0 ≡ false → lowest f x.0 ≡ 0
    next_fails q = lowest_none f x.0 (λ y a b p. go y a p (dec_lt y x.0) b)
      where
        go : (y : ℕ) → 1 ≤ y → f y ≡ true → Dec (y < x.0) → y ≤ x.0 → ⊥
        go y a p (yes l) b = none_below y a l p
        go y a p (no l) b = let z : y ≡ x.0 = omega arith in never p (ap f z ∙ q)
