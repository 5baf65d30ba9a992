-- Reading a table after writing it: two places of rows of one width meet only where row and place do, so a word keeps its number
-- under every write but its own. All that isn't linear arithmetic is in the first four laws. Assumes nothing.
use Prim.Native.Nat.{ℕ, zero, suc, ◌+◌, ◌*◌, ◌-◌, ◌≤◌, ◌<◌}
use native.Mathlib.Nat.{mul-le-mul, mul-le-mul_left, mul-zero, mul-suc}
use native.Mathlib.Omega.{arith}
use native.Mathlib.Decide.{dec_lt, ℕ_discrete}
use mathlib.Core.Path.{◌≡◌, refl, sym, ap, ◌∙◌}
use mathlib.Core.Logic.{◌≢◌}
use mathlib.Core.List.{List, ◌++◌}
use lib.ListN.{length, take, drop, get_or, set, length-set, length-append, length-drop, get_or-append}
use lib.Seq.{set_out, get_or-set_same, get_or-set_other, length-take-le, get_or-append-add, get_or-take, get_or-drop}
use borrow.Author.Tests.{le-leb, lt-leb}
use Rattle.rules.specs.Table.{Table, size, most_of, most, row_width, word, put, with_row}

-- ---- places of rows of width w
-- a lower row ends before a higher one begins
pub rows_rise : (w e e' : ℕ) → e < e' → w * e + w ≤ w * e'
rows_rise w e e' h = omega (arith, mul-le-mul_left w h)

row_apart : (w e k e' k' : ℕ) → k < w → k' < w → e' ≢ e → w * e' + k' ≢ w * e + k
row_apart w e k e' k' h h' n = go (dec_lt e e')
  where
    go : Dec (e < e') → w * e' + k' ≢ w * e + k
    go (yes l) = λ q. omega (arith, rows_rise w e e' l, q)
    go (no l) = λ q. let l' : e' < e = omega arith in omega (arith, rows_rise w e' e l', q)

place_apart : (w e k e' k' : ℕ) → k < w → k' < w → k' ≢ k → w * e' + k' ≢ w * e + k
place_apart w e k e' k' h h' n = go (dec_lt e e') (dec_lt e' e)
  where
    go : Dec (e < e') → Dec (e' < e) → w * e' + k' ≢ w * e + k
    go (yes l) d = λ q. omega (arith, rows_rise w e e' l, q)
    go (no l) (yes l') = λ q. omega (arith, rows_rise w e' e l', q)
    go (no l) (no l') = λ q. let s : e ≡ e' = omega arith in n (omega (arith, ap (λ (x : ℕ). w * x) s, q))

-- what isn't the version lies past it
past_version : (w e k : ℕ) → 0 < w → 0 < e + k → 0 < w * e + k
past_version w zero k h l = rw mul-zero (omega arith)
past_version w (suc e) k h l = rw mul-suc (omega arith)

-- ---- the form: in this file these three laws and `most_of_lem` alone open `most`
pub most_same : (t s : Table) → get_or t 0 0 ≡ get_or s 0 0 → most t ≡ most s
unfolding most
most_same t s q = ap most_of q

pub most_low : (t : Table) → 8 ≤ most t
unfolding most most_of
most_low t = omega arith

pub most_high : (t : Table) → most t ≤ 12
unfolding most most_of
most_high t = omega arith

-- a row starts at no large number
pub row_low : (t : Table) (e : ℕ) → e < 65536 → row_width t * e ≤ 20 * 65536
row_low t e h =
    let a : row_width t ≤ 20 = omega (arith, most_high t) in
    let b : e ≤ 65536 = omega arith in
    mul-le-mul a b

-- the head's words lie at their own numbers in every form
pub word_head : (t : Table) (k : ℕ) → word t 0 k ≡ get_or t k 0
unfolding word
word_head t k = ap (λ (i : ℕ). get_or t i 0) (rw (mul-zero (row_width t)) (omega arith))

pub most_of_lem : (t : Table) → most t ≡ most_of (word t 0 0)
unfolding most
most_of_lem t = ap most_of (sym (word_head t 0))

pub most_version : (t s : Table) → word t 0 0 ≡ word s 0 0 → most t ≡ most s
most_version t s q = most_same t s (sym (word_head t 0) ∙ q ∙ word_head s 0)

-- ---- past the end of the run
pub put_past : (t : Table) (e k v : ℕ) → size t ≤ row_width t * e + k → put t e k v ≡ t
unfolding put
put_past t e k v h = set_out t (row_width t * e + k) v h

pub row_past : (t : Table) (e : ℕ) (ys : List ℕ) → size t < row_width t * e + row_width t → with_row t e ys ≡ t
unfolding with_row
row_past t e ys h = rw (lt-leb _ _ h)

-- ---- one word written, any but the version
pub size_put : (t : Table) (e k v : ℕ) → size (put t e k v) ≡ size t
unfolding put
size_put t e k v = length-set t (row_width t * e + k) v

-- the words after it stay
pub put_after : (t : Table) (e k v i : ℕ) → row_width t * e + k < i → get_or (put t e k v) i 0 ≡ get_or t i 0
unfolding put
put_after t e k v i h = get_or-set_other t (row_width t * e + k) i v 0 (λ q. omega arith)

module _ (t : Table) (e k v : ℕ) (past : 0 < e + k) where
  pub most_put : most (put t e k v) ≡ most t
  unfolding put
  most_put = most_same (put t e k v) t (get_or-set_other t (row_width t * e + k) 0 v 0
      (λ q. omega (arith, past_version (row_width t) e k (omega arith) past, q)))

  pub word_put_same : row_width t * e + k < size t → word (put t e k v) e k ≡ v
  unfolding word put
  word_put_same h = rw most_put (get_or-set_same t (row_width t * e + k) v 0 h)

  pub word_put_row : (e' k' : ℕ) → k < row_width t → k' < row_width t → e' ≢ e → word (put t e k v) e' k' ≡ word t e' k'
  unfolding word put
  word_put_row e' k' h h' n =
      rw most_put (get_or-set_other t (row_width t * e + k) (row_width t * e' + k') v 0 (row_apart (row_width t) e k e' k' h h' n))

  pub word_put_place : (e' k' : ℕ) → k < row_width t → k' < row_width t → k' ≢ k → word (put t e k v) e' k' ≡ word t e' k'
  unfolding word put
  word_put_place e' k' h h' n =
      rw most_put (get_or-set_other t (row_width t * e + k) (row_width t * e' + k') v 0 (place_apart (row_width t) e k e' k' h h' n))

  -- any other word, in one law
  pub word_put_other : (e' k' : ℕ) → k < row_width t → k' < row_width t → (e' ≡ e → k' ≡ k → ⊥) → word (put t e k v) e' k' ≡ word t e' k'
  word_put_other e' k' h h' n = go (ℕ_discrete e' e)
    where
      go : Dec (e' ≡ e) → word (put t e k v) e' k' ≡ word t e' k'
      go (yes q) = word_put_place e' k' h h' (n q)
      go (no q) = word_put_row e' k' h h' q

-- ---- a whole row written
pub at_left : (xs ys : List ℕ) (n m : ℕ) → length xs ≡ m → n < m → get_or (xs ++ ys) n 0 ≡ get_or xs n 0
at_left xs ys n m e h = get_or-append xs ys 0 n (omega arith)

pub at_right : (xs ys : List ℕ) (n m k : ℕ) → length xs ≡ m → n ≡ m + k → get_or (xs ++ ys) n 0 ≡ get_or ys k 0
at_right xs ys n m k e h =
    let q : n ≡ length xs + k = omega arith in
    rw q (get_or-append-add xs ys k 0)

-- a run in which ys stand for the numbers from a on, w of them
module _ (a w : ℕ) (t ys : List ℕ) (sized : length ys ≡ w) (fits : a + w ≤ length t) where
  spliced : List ℕ
  spliced = take a t ++ (ys ++ drop (a + w) t)

  front : length (take a t) ≡ a
  front = length-take-le a t (omega arith)

  spliced_length : length spliced ≡ length t
  unfolding spliced
  spliced_length = simp (length-append, length-drop) (omega (arith, front))

  spliced_in : (k : ℕ) → k < w → get_or spliced (a + k) 0 ≡ get_or ys k 0
  unfolding spliced
  spliced_in k h = at_right (take a t) (ys ++ drop (a + w) t) (a + k) a k front refl ∙ at_left ys (drop (a + w) t) k w sized h

  spliced_before : (i : ℕ) → i < a → get_or spliced i 0 ≡ get_or t i 0
  unfolding spliced
  spliced_before i h = at_left (take a t) (ys ++ drop (a + w) t) i a front h ∙ get_or-take a t i 0 h

  spliced_after : (i : ℕ) → a + w ≤ i → get_or spliced i 0 ≡ get_or t i 0
  unfolding spliced
  spliced_after i h =
      let past = i - (a + w) in
      at_right (take a t) (ys ++ drop (a + w) t) i a (w + past) front (omega arith)
      ∙ at_right ys (drop (a + w) t) (w + past) w past sized refl
      ∙ get_or-drop (a + w) t past 0
      ∙ ap (λ (j : ℕ). get_or t j 0) (omega arith)

module _ (t : Table) (e : ℕ) (ys : List ℕ) (past : 0 < e) (sized : length ys ≡ row_width t)
    (fits : row_width t * e + row_width t ≤ size t) where
  row_is : with_row t e ys ≡ spliced (row_width t * e) (row_width t) t ys sized fits
  unfolding with_row spliced
  row_is = rw (le-leb _ _ fits)

  pub most_row : most (with_row t e ys) ≡ most t
  most_row = most_same (with_row t e ys) t
      (ap (λ (s : List ℕ). get_or s 0 0) row_is
      ∙ spliced_before (row_width t * e) (row_width t) t ys sized fits 0 (omega (arith, past_version (row_width t) e 0 (omega arith) (omega arith))))

  pub size_row : size (with_row t e ys) ≡ size t
  size_row = ap {B = ℕ} length row_is ∙ spliced_length (row_width t * e) (row_width t) t ys sized fits

  pub word_row_same : (k : ℕ) → k < row_width t → word (with_row t e ys) e k ≡ get_or ys k 0
  unfolding word
  word_row_same k h = rw (most_row, row_is) (spliced_in (row_width t * e) (row_width t) t ys sized fits k h)

  pub word_row_other : (e' k : ℕ) → k < row_width t → e' ≢ e → word (with_row t e ys) e' k ≡ word t e' k
  unfolding word
  word_row_other e' k h n = rw (most_row, row_is) (go (dec_lt e' e))
    where
      go : Dec (e' < e)
          → get_or (spliced (row_width t * e) (row_width t) t ys sized fits) (row_width t * e' + k) 0 ≡ get_or t (row_width t * e' + k) 0
      go (yes l) = spliced_before (row_width t * e) (row_width t) t ys sized fits _ (omega (arith, rows_rise (row_width t) e' e l))
      go (no l) =
          let l' : e < e' = omega arith in
          spliced_after (row_width t * e) (row_width t) t ys sized fits _ (omega (arith, rows_rise (row_width t) e e' l'))

  -- the words after the row stay
  pub row_after : (i : ℕ) → row_width t * e + row_width t ≤ i → get_or (with_row t e ys) i 0 ≡ get_or t i 0
  row_after i h = rw row_is (spliced_after (row_width t * e) (row_width t) t ys sized fits i h)

-- ---- a word of the head written lies at its own number in every form
pub put_head : (t : Table) (k v : ℕ) → put t 0 k v ≡ set t k v
unfolding put
put_head t k v = ap (λ (i : ℕ). set t i v) (rw (mul-zero (row_width t)) (omega arith))
