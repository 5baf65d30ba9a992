-- What a printed line says can be read back: a line has one line feed, at its end, and its parts are set off by single spaces, so a line
-- of the output is the line of one answer and of no other. Assumes nothing.
use Rattle.std.specs.Prelude.{if◌then◌else◌}
use Prim.Native.Nat.{ℕ, zero, suc, ◌+◌, ◌-◌, ◌*◌, ◌/◌, ◌%◌, ◌≤◌, ◌<◌}
use native.Mathlib.Omega.{arith}
use native.Mathlib.Decide.{dec_lt}
use mathlib.Core.Path.{◌≡◌, refl, sym, ap, ◌∙◌}
use mathlib.Core.Bool.{Bool, true, false}
use mathlib.Core.List.{List, [], ◌∷◌, ◌++◌}
use lib.Dec.{leb, ltb}
use lib.ListN.{length, length-append}
use borrow.Author.Tests.{lt-ltb, le-ltb, ne_eqb, leb-true}
use Rattle.rules.specs.Choice.{every}
use Rattle.rules.specs.Outcome.{accepted}
use Rattle.rules.proofs.Logic.{and_left, and_right, first_of, rest_of}
use Rattle.rules.specs.Player.{ascii, digits, decimal, word_of, spaced, line_of, lines_from, onto_first, cut_lines}

-- ---- plain bytes: none is a space or a line feed
pub data Plain : List ℕ → Type 0 where
  plain_none : Plain []
  plain_more : {c : ℕ} {cs : List ℕ} → 33 ≤ c → Plain cs → Plain (c ∷ cs)

plain_append : {xs ys : List ℕ} → Plain xs → Plain ys → Plain (xs ++ ys)
plain_append plain_none q = q
plain_append (plain_more h p) q = plain_more h (plain_append p q)

digits_plain : (steps n : ℕ) → Plain (digits steps n)
unfolding digits
digits_plain zero n = plain_more {c = 48 + n} (omega arith) plain_none
digits_plain (suc steps) n = go (ltb n 10) (digits_plain steps (n / 10))
  where
    go : (b : Bool) → Plain (digits steps (n / 10)) → Plain (if b then (48 + n) ∷ [] else digits steps (n / 10) ++ ((48 + n % 10) ∷ []))
    go true p = plain_more {c = 48 + n} (omega arith) plain_none
    go false p = plain_append p (plain_more {c = 48 + n % 10} (omega arith) plain_none)

decimal_plain : (n : ℕ) → Plain (decimal n)
unfolding decimal
decimal_plain n = digits_plain n n

-- ---- the number that decimal digits stand for
abbrev value : ℕ → List ℕ → ℕ
value high [] = high
value high (d ∷ ds) = value (10 * high + (d - 48)) ds

value_last : (high : ℕ) (ds : List ℕ) (d : ℕ) → value high (ds ++ (d ∷ [])) ≡ 10 * value high ds + (d - 48)
value_last high [] d = refl
value_last high (e ∷ ds) d = value_last (10 * high + (e - 48)) ds d

digits_value : (steps n : ℕ) → n ≤ steps → value 0 (digits steps n) ≡ n
unfolding digits
digits_value zero n h = omega arith
digits_value (suc steps) n h = go (dec_lt n 10) (digits_value steps (n / 10))
  where
    go : Dec (n < 10) → (n / 10 ≤ steps → value 0 (digits steps (n / 10)) ≡ n / 10)
        → value 0 (if ltb n 10 then (48 + n) ∷ [] else digits steps (n / 10) ++ ((48 + n % 10) ∷ [])) ≡ n
    go (yes l) r = rw (lt-ltb n 10 l) (omega arith)
    go (no l) r =
        rw (le-ltb n 10 (omega arith), value_last 0 (digits steps (n / 10)) (48 + n % 10), r (omega arith)) (omega arith)

pub decimal_injective : (m n : ℕ) → decimal m ≡ decimal n → m ≡ n
unfolding decimal
decimal_injective m n q = sym (digits_value m m (omega arith)) ∙ ap (value 0) q ∙ digits_value n n (omega arith)

-- ---- where plain bytes end, by the first byte that isn't
pub record Parts (xs ys : List ℕ) (s r : ℕ) (zs ws : List ℕ) : Type 0 where
  pub front : xs ≡ ys
  pub mark : s ≡ r
  pub back : zs ≡ ws

parted : {xs ys : List ℕ} {s r : ℕ} {zs ws : List ℕ} → Plain xs → Plain ys → s < 33 → r < 33 → xs ++ (s ∷ zs) ≡ ys ++ (r ∷ ws) → Parts xs ys s r zs ws
parted plain_none plain_none a b q = record { front = refl; mark = first_of q; back = rest_of q }
parted plain_none (plain_more h p) a b q = let e = first_of q in absurd (omega arith)
parted (plain_more h p) plain_none a b q = let e = first_of q in absurd (omega arith)
parted (plain_more {c} {cs} h p) (plain_more {c = d} {cs = ds} i r) a b q =
    let e : c ≡ d = first_of q in
    let w = parted p r a b (rest_of q) in
    record { front = rw (e, w.front) refl; mark = w.mark; back = w.back }

-- ---- the values of a line
-- they begin with a space or are the line feed alone
record Marked (xs : List ℕ) : Type 0 where
  mark : ℕ
  after : List ℕ
  low : mark < 33
  is : spaced xs ≡ mark ∷ after

marked : (xs : List ℕ) → Marked xs
unfolding spaced
marked [] = record { mark = 10; after = []; low = omega arith; is = refl }
marked (x ∷ xs) = record { mark = 32; after = decimal x ++ spaced xs; low = omega arith; is = refl }

before_values : {ps qs : List ℕ} (xs ys : List ℕ) → Plain ps → Plain qs → ps ++ spaced xs ≡ qs ++ spaced ys → (ps ≡ qs) × (spaced xs ≡ spaced ys)
before_values {ps} {qs} xs ys p q e =
    let m = marked xs in
    let n = marked ys in
    let w = parted p q m.low n.low (rw (m.is, n.is) at e) in
    (w.front, m.is ∙ rw (w.mark, w.back) refl ∙ sym n.is)

spaced_injective : (xs ys : List ℕ) → spaced xs ≡ spaced ys → xs ≡ ys
unfolding spaced
spaced_injective [] [] q = refl
spaced_injective [] (y ∷ ys) q = let e : ◌≡◌ {A = ℕ} 10 32 = first_of q in absurd (omega arith)
spaced_injective (x ∷ xs) [] q = let e : ◌≡◌ {A = ℕ} 32 10 = first_of q in absurd (omega arith)
spaced_injective (x ∷ xs) (y ∷ ys) q =
    let w = before_values xs ys (decimal_plain x) (decimal_plain y) (rest_of q) in
    let e : x ≡ y = decimal_injective x y w.0 in
    rw (e, spaced_injective xs ys w.1) refl

-- ---- the words
tested : (cs : List ℕ) → every (leb 33) cs ≡ true → Plain cs
unfolding every
tested [] e = plain_none
tested (c ∷ cs) e = plain_more (leb-true 33 c (and_left (leb 33 c) (every (leb 33) cs) e)) (tested cs (and_right (leb 33 c) (every (leb 33) cs) e))

-- the words from the given one on; there are seven
word_plain : (n : ℕ) → Plain (word_of n)
unfolding word_of ascii every
word_plain zero = plain_none
word_plain (suc zero) = tested _ refl
word_plain (suc (suc zero)) = tested _ refl
word_plain (suc (suc (suc zero))) = tested _ refl
word_plain (suc (suc (suc (suc zero)))) = tested _ refl
word_plain (suc (suc (suc (suc (suc zero))))) = tested _ refl
word_plain (suc (suc (suc (suc (suc (suc zero)))))) = tested _ refl
word_plain (suc (suc (suc (suc (suc (suc (suc zero))))))) = tested _ refl
word_plain (suc (suc (suc (suc (suc (suc (suc (suc n)))))))) = plain_none

-- only answer 3 has the word of an acceptance
word_accepted : (n : ℕ) → word_of n ≡ word_of 3 → n ≡ 3
unfolding word_of ascii
word_accepted zero q = absurd (let e : ◌≡◌ {A = ℕ} 0 8 = ap length q in omega arith)
word_accepted (suc zero) q = absurd (let e : ◌≡◌ {A = ℕ} 114 97 = first_of q in omega arith)
word_accepted (suc (suc zero)) q = absurd (let e : ◌≡◌ {A = ℕ} 115 97 = first_of q in omega arith)
word_accepted (suc (suc (suc zero))) q = refl
word_accepted (suc (suc (suc (suc zero)))) q = absurd (let e : ◌≡◌ {A = ℕ} 100 97 = first_of q in omega arith)
word_accepted (suc (suc (suc (suc (suc zero))))) q = absurd (let e : ◌≡◌ {A = ℕ} 104 97 = first_of q in omega arith)
word_accepted (suc (suc (suc (suc (suc (suc zero)))))) q = absurd (let e : ◌≡◌ {A = ℕ} 112 97 = first_of q in omega arith)
word_accepted (suc (suc (suc (suc (suc (suc (suc zero))))))) q = absurd (let e : ◌≡◌ {A = ℕ} 114 97 = first_of q in omega arith)
word_accepted (suc (suc (suc (suc (suc (suc (suc (suc n)))))))) q = absurd (let e : ◌≡◌ {A = ℕ} 0 8 = ap length q in omega arith)

-- ---- a line
-- two lines that are equal have equal places, words and values
pub line_parts : (i k n w : ℕ) (vs ws : List ℕ) → line_of i (n ∷ vs) ≡ line_of k (w ∷ ws) → (i ≡ k) × (word_of n ≡ word_of w) × (vs ≡ ws)
unfolding line_of
line_parts i k n w vs ws e =
    let p = parted {s = 32} {r = 32} (decimal_plain i) (decimal_plain k) (omega arith) (omega arith) e in
    let v = before_values vs ws (word_plain n) (word_plain w) p.back in
    (decimal_injective i k p.front, v.0, spaced_injective vs ws v.1)

-- a line that says that p was accepted by q is the line of that answer, at that place
pub line_accepted : (i k p q : ℕ) (a : List ℕ) → line_of i a ≡ line_of k (accepted p q) → (i ≡ k) × (a ≡ accepted p q)
unfolding line_of
line_accepted i k p q [] e =
    let z : 0 ≡ length (decimal k) + suc (length (word_of 3 ++ spaced (p ∷ q ∷ []))) = ap length e ∙ length-append (decimal k) _ in
    absurd (omega arith)
line_accepted i k p q (n ∷ vs) e =
    let v = line_parts i k n 3 vs (p ∷ q ∷ []) e in
    let z : n ≡ 3 = word_accepted n v.1 in
    (v.0, rw (z, v.2) refl)

-- ---- a text of lines
-- the lines of answers, from a place on
abbrev pub numbered : ℕ → List (List ℕ) → List (List ℕ)
numbered place [] = []
numbered place (a ∷ said) = line_of place a ∷ numbered (place + 1) said

-- one line, with its line feed last, comes off the front
data OneLine : List ℕ → Type 0 where
  feed : OneLine (10 ∷ [])
  byte : {c : ℕ} {cs : List ℕ} → (c ≡ 10 → ⊥) → OneLine cs → OneLine (c ∷ cs)

cut_line : {l : List ℕ} (rest : List ℕ) → OneLine l → cut_lines (l ++ rest) ≡ l ∷ cut_lines rest
unfolding cut_lines onto_first
cut_line rest feed = refl
cut_line rest (byte {c} n p) = rw (ne_eqb c 10 n, cut_line rest p) refl

plain_line : {ps ls : List ℕ} → Plain ps → OneLine ls → OneLine (ps ++ ls)
plain_line plain_none q = q
plain_line (plain_more {c} h p) q = byte {c = c} (λ e. omega arith) (plain_line p q)

spaced_line : (vs : List ℕ) → OneLine (spaced vs)
unfolding spaced
spaced_line [] = feed
spaced_line (v ∷ vs) = byte {c = 32} (λ e. omega arith) (plain_line (decimal_plain v) (spaced_line vs))

line_line : (i n : ℕ) (vs : List ℕ) → OneLine (line_of i (n ∷ vs))
unfolding line_of
line_line i n vs = plain_line (decimal_plain i) (byte {c = 32} (λ e. omega arith) (plain_line (word_plain n) (spaced_line vs)))

-- every answer says something
pub data Worded : List (List ℕ) → Type 0 where
  worded_none : Worded []
  worded_more : {a : List ℕ} {rest : List (List ℕ)} (n : ℕ) (vs : List ℕ) → a ≡ n ∷ vs → Worded rest → Worded (a ∷ rest)

pub lines_cut : {said : List (List ℕ)} (place : ℕ) → Worded said → cut_lines (lines_from place said) ≡ numbered place said
unfolding lines_from cut_lines
lines_cut place worded_none = refl
lines_cut place (worded_more {rest = rest} n vs e w) =
    rw e (cut_line (lines_from (place + 1) rest) (line_line place n vs)
    ∙ ap (λ (ls : List (List ℕ)). line_of place (n ∷ vs) ∷ ls) (lines_cut (place + 1) w))
