-- A bounded append composes, keeps the output's length, and leaves no choice; the next place says whether the bytes fit. So a number and a
-- line are written by their parts. Assumes nothing.
use Prim.Native.Nat.{ℕ, suc, ◌+◌, ◌-◌, ◌/◌, ◌%◌, ◌≤◌, ◌<◌, min}
use native.Mathlib.Nat.{zero-add}
use native.Mathlib.Numerals.{add-one}
use native.Mathlib.Decide.{dec_le}
use native.Mathlib.Omega.{arith}
use mathlib.Core.Path.{◌≡◌, refl, sym, ap, ◌∙◌}
use mathlib.Core.List.{List, [], ◌∷◌, ◌++◌, append_assoc}
use lib.ListN.{length, take, drop, get_or, set, length-append}
use borrow.Rule.Slice.PartMut.{put_mid, Post-is}
use lib.Seq.{sets, take-suc, set_out, length-sets, sets-eq}
use Rattle.rules.specs.Player.{digit, decimal, word_of, spaced, line_of}
use Rattle.rules.proofs.Stores.{sets_append}
use Rattle.rules.proofs.Decimal.{decimal_small, decimal_more}
use Rattle.text.specs.Put.{Put}

-- ---- runs of stores
sets_past : (a : List ℕ) (i : ℕ) (ys : List ℕ) → length a ≤ i → sets a i ys ≡ a
sets_past a i [] h = refl
sets_past a i (y ∷ ys) h = rw (set_out a i y h) (sets_past a (suc i) ys (omega arith))

sets_min : (a : List ℕ) (i n : ℕ) (ys : List ℕ) → n ≡ min i (length a + 1) → sets a n ys ≡ sets a i ys
sets_min a i n ys e = go (dec_le i (length a))
  where
    go : Dec (i ≤ length a) → sets a n ys ≡ sets a i ys
    go (yes h) = let d : n ≡ i = omega arith in rw d
    go (no h) = sets_past a n ys (omega arith) ∙ sym (sets_past a i ys (omega arith))

-- ---- one append
pub put_none : (a : List ℕ) → Put a 0 [] a 0
put_none a = record { written = refl; place = omega arith }

-- the same bytes, said otherwise
pub put_as : {a : List ℕ} {i : ℕ} {xs ys b : List ℕ} {j : ℕ} → xs ≡ ys → Put a i xs b j → Put a i ys b j
put_as e p = rw e at p

pub put_length : {a : List ℕ} {i : ℕ} {xs b : List ℕ} {j : ℕ} → Put a i xs b j → length b ≡ length a
put_length {a} {i} {xs} p = ap length p.written ∙ length-sets a i xs

-- the bytes and the place decide the new output and the next place
pub put_new : {a : List ℕ} {i : ℕ} {xs b c : List ℕ} {j k : ℕ} → Put a i xs b j → Put a i xs c k → b ≡ c
put_new p q = p.written ∙ sym q.written

pub put_next : {a : List ℕ} {i : ℕ} {xs b c : List ℕ} {j k : ℕ} → Put a i xs b j → Put a i xs c k → j ≡ k
put_next p q = p.place ∙ sym q.place

-- from the start, bytes that fit
pub whole_new : {a xs b : List ℕ} {n : ℕ} → length xs ≤ length a → Put a 0 xs b n → b ≡ xs ++ drop (length xs) a
whole_new {a} {xs} h p =
    let l : 0 + length xs ≤ length a = omega arith in
    p.written ∙ sets-eq xs a 0 l ∙ rw zero-add

pub whole_next : {a xs b : List ℕ} {n : ℕ} → length xs ≤ length a → Put a 0 xs b n → n ≡ length xs
whole_next h p = omega (arith, p.place)

-- the next place says which
pub next_fits : {a : List ℕ} {i : ℕ} {xs b : List ℕ} {n : ℕ} → n ≤ length a → Put a i xs b n → i + length xs ≤ length a
next_fits h p = omega (arith, p.place)

pub next_past : {a : List ℕ} {i : ℕ} {xs b : List ℕ} {n : ℕ} → length a < n → Put a i xs b n → length a < i + length xs
next_past h p = omega (arith, p.place)

-- a place past the end may as well be one past the length
pub put_from :
    {a : List ℕ} {i n : ℕ} {xs b : List ℕ} {j : ℕ} → n ≡ min i (length a + 1) → Put a n xs b j → Put a i xs b j
put_from {a} {i} {n} {xs} e p = record { written = p.written ∙ sets_min a i n xs e; place = omega (arith, p.place, e) }

-- one byte within the output
pub put_one : (a : List ℕ) (i x : ℕ) {j : ℕ} → i < length a → j ≡ i + 1 → Put a i (x ∷ []) (set a i x) j
put_one a i x h e = record { written = refl; place = omega arith }

-- bytes that fit, all at once
pub put_all :
    (a : List ℕ) (i : ℕ) (w ys : List ℕ) → i + length w ≤ length a → ys ≡ w → Put a i w (put_mid i (i + length w - i) a ys) (i + length w)
put_all a i w ys h e =
    record { written = rw (e, Post-is i (i + length w) a (omega arith), ← append_assoc) (sym (sets-eq w a i h)); place = omega arith }

-- ---- one append after another
pub then :
    {a : List ℕ} {i : ℕ} {xs b : List ℕ} {j : ℕ} {ys c : List ℕ} {k : ℕ}
    → Put a i xs b j → Put b j ys c k → Put a i (xs ++ ys) c k
then {a} {i} {xs} {b} {j} {ys} {c} {k} p q =
    let l : length b ≡ length a = put_length p in
    let m : length (sets a i xs) ≡ length a = length-sets a i xs in
    record {
      written = q.written ∙ rw p.written (sets_min (sets a i xs) (i + length xs) j ys (rw m p.place) ∙ sets_append a i xs ys);
      place = rw length-append (omega (arith, p.place, q.place));
    }

-- one byte of a word more
pub more :
    (w : List ℕ) (n : ℕ) {a : List ℕ} {i : ℕ} {b : List ℕ} {j : ℕ} {c : List ℕ} {k : ℕ}
    → n < length w → Put a i (take n w) b j → Put b j (get_or w n 0 ∷ []) c k → Put a i (take (n + 1) w) c k
more w n h p q = rw (add-one, take-suc w n 0 h) (then p q)

-- ---- a number
pub digit_put :
    (n : ℕ) {d : ℕ} {a : List ℕ} {i : ℕ} {b : List ℕ} {j : ℕ}
    → n < 10 → d ≡ digit (n % 10) → Put a i (d ∷ []) b j → Put a i (decimal n) b j
digit_put n h e p =
    let m : n % 10 ≡ n = omega arith in
    rw (decimal_small n h) (rw (e, m) at p)

pub two_put :
    (n : ℕ) {a : List ℕ} {i : ℕ} {b : List ℕ} {j : ℕ}
    → 10 ≤ n → n < 100 → Put a i (digit (n / 10 % 10) ∷ digit (n % 10) ∷ []) b j → Put a i (decimal n) b j
two_put n l h p =
    let e : n / 10 % 10 ≡ n / 10 = omega arith in
    rw (decimal_more n l, decimal_small (n / 10) (omega arith)) (rw e at p)

-- the higher digits, then the last two
pub digits_put :
    (n : ℕ) {a : List ℕ} {i : ℕ} {b : List ℕ} {j : ℕ} {c : List ℕ} {k : ℕ}
    → 100 ≤ n → Put a i (decimal (n / 100)) b j → Put b j (digit (n / 10 % 10) ∷ digit (n % 10) ∷ []) c k → Put a i (decimal n) c k
digits_put n h p q =
    let e : n / 10 / 10 ≡ n / 100 = omega arith in
    rw (decimal_more n (omega arith), decimal_more (n / 10) (omega arith), e, append_assoc) (then p q)

-- ---- the parts of a line
pub feed_put : {a : List ℕ} {i : ℕ} {b : List ℕ} {j : ℕ} → Put a i (10 ∷ []) b j → Put a i (spaced []) b j
unfolding spaced
feed_put p = p

pub value_put :
    (v : ℕ) {a : List ℕ} {i : ℕ} {b : List ℕ} {j : ℕ} {c : List ℕ} {k : ℕ}
    → Put a i (32 ∷ []) b j → Put b j (decimal v) c k → Put a i (32 ∷ decimal v) c k
value_put v p q = then p q

pub values_put :
    (v : ℕ) (vs : List ℕ) {a : List ℕ} {i : ℕ} {b : List ℕ} {j : ℕ} {c : List ℕ} {k : ℕ}
    → Put a i (32 ∷ decimal v) b j → Put b j (spaced vs) c k → Put a i (spaced (v ∷ vs)) c k
unfolding spaced
values_put v vs p q = then p q

-- the record's number, then the word and the values
pub line_put :
    (place n : ℕ) (vs : List ℕ) {a : List ℕ} {i : ℕ} {b : List ℕ} {j : ℕ} {c : List ℕ} {k : ℕ}
    → Put a i (decimal place) b j → Put b j ((32 ∷ word_of n) ++ spaced vs) c k → Put a i (line_of place (n ∷ vs)) c k
unfolding line_of
line_put place n vs p q = then p q
