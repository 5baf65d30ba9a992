-- How long a line of the output can be: a number below 65536 has at most five digits, so a line with three values has at most 31 bytes.
-- Assumes nothing.
use Rattle.std.specs.Prelude.{Result, Ok, Err}
use Prim.Native.Nat.{ℕ, zero, suc, ◌+◌, ◌*◌, ◌/◌, ◌≤◌, ◌<◌}
use native.Mathlib.Omega.{arith}
use native.Mathlib.Decide.{dec_lt}
use mathlib.Core.Path.{refl}
use mathlib.Core.List.{List, [], ◌∷◌, ◌++◌, Memᴰ}
use lib.ListN.{length, length-append}
use Rattle.rules.specs.Player.{ascii, decimal, word_of, spaced, line_of}
use Rattle.rules.specs.Meaning.{said}
use Rattle.rules.specs.declared.Refusal.{Refusal}
use Rattle.rules.specs.declared.Reply.{Reply}
use Rattle.rules.specs.declared.Reply.TheVariants.{Ready, Sent, Accepted, Dropped, Handle, Parsed}
use Rattle.rules.proofs.Decimal.{decimal_small, decimal_more}

-- ---- a number
abbrev pub ten_to : ℕ → ℕ
ten_to zero = 1
ten_to (suc k) = 10 * ten_to k

pub decimal_within : (k n : ℕ) → n < ten_to (suc k) → length (decimal n) ≤ suc k
decimal_within zero n h = rw (decimal_small n (omega arith)) (omega arith)
decimal_within (suc k) n h = go (dec_lt n 10) (decimal_within k (n / 10) (omega arith))
  where
    go : Dec (n < 10) → length (decimal (n / 10)) ≤ suc k → length (decimal n) ≤ suc (suc k)
    go (yes l) r = rw (decimal_small n l) (omega arith)
    go (no l) r = rw (decimal_more n (omega arith), length-append) (omega arith)

pub decimal_short : (n : ℕ) → n < 65536 → length (decimal n) ≤ 5
decimal_short n h = decimal_within 4 n (omega arith)

-- ---- values
pub spaced_short : (vs : List ℕ) → ((v : ℕ) → Memᴰ v vs → v < 65536) → length (spaced vs) ≤ 6 * length vs + 1
unfolding spaced
spaced_short [] h = omega arith
spaced_short (v ∷ vs) h =
    let d : length (decimal v) ≤ 5 = decimal_short v (h v (Memᴰ.head refl)) in
    let r : length (spaced vs) ≤ 6 * length vs + 1 = spaced_short vs (λ x i. h x (Memᴰ.tail i)) in
    rw (length-append (decimal v) (spaced vs)) (omega arith)

-- ---- a line
pub line_within :
    (place n : ℕ) (vs : List ℕ) → place < 65536 → ((v : ℕ) → Memᴰ v vs → v < 65536)
    → length (line_of place (n ∷ vs)) ≤ 7 + (length (word_of n) + 6 * length vs)
unfolding line_of
line_within place n vs low h =
    let d : length (decimal place) ≤ 5 = decimal_short place low in
    let r : length (spaced vs) ≤ 6 * length vs + 1 = spaced_short vs h in
    rw (length-append (decimal place) (32 ∷ (word_of n ++ spaced vs)), length-append (word_of n) (spaced vs)) (omega arith)

-- the longest are those of three values and a word of six letters
pub line_short :
    (place : ℕ) (a : Result Reply Refusal) → place < 65536 → ((v : ℕ) → Memᴰ v (said a) → v < 65536) → length (line_of place (said a)) ≤ 31
unfolding said word_of ascii
line_short place (Ok (Ready u)) low h = omega (arith, line_within place 1 (u ∷ []) low (λ x i. h x (Memᴰ.tail i)))
line_short place (Ok (Sent p q e)) low h = omega (arith, line_within place 2 (p ∷ q ∷ e.0 ∷ []) low (λ x i. h x (Memᴰ.tail i)))
line_short place (Ok (Accepted p q)) low h = omega (arith, line_within place 3 (p ∷ q ∷ []) low (λ x i. h x (Memᴰ.tail i)))
line_short place (Ok Dropped) low h = omega (arith, line_within place 4 [] low (λ x i. h x (Memᴰ.tail i)))
line_short place (Ok (Handle e)) low h = omega (arith, line_within place 5 (e.0 ∷ []) low (λ x i. h x (Memᴰ.tail i)))
line_short place (Ok (Parsed y v l)) low h = omega (arith, line_within place 6 (y ∷ v ∷ l ∷ []) low (λ x i. h x (Memᴰ.tail i)))
line_short place (Err r) low h = omega (arith, line_within place 7 (r.0 ∷ []) low (λ x i. h x (Memᴰ.tail i)))
