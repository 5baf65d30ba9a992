-- The two round trips of the session file: a record that is written reads back the same, wherever it stands, and a record that was read is
-- written back byte for byte. Assumes nothing.
use Prim.Native.Nat.{ℕ, zero, suc, ◌+◌, ◌-◌, ◌*◌, ◌/◌, ◌%◌, ◌≤◌, ◌<◌}
use native.Mathlib.Omega.{arith}
use native.Mathlib.Nat.{add_assoc, add-zero}
use native.Mathlib.Decide.{ℕ_discrete, dec_le}
use mathlib.Core.Path.{◌≡◌, refl, sym, ap, subst, ◌∙◌}
use mathlib.Core.Bool.{Bool, true, false}
use mathlib.Core.List.{List, [], ◌∷◌, ◌++◌}
use lib.Dec.{eqb, leb}
use lib.ListN.{length, get_or, take, drop, length-append, length-take}
use lib.Seq.{get_or-append-add, drop-cons}
use borrow.Author.Tests.{le-leb, lt-leb, leb-true, eqb-true}
use Rattle.rules.specs.Choice.{◌and◌, every, is_zero}
use Rattle.rules.specs.Commands.{list_is_asked}
use Rattle.rules.specs.Machine.{Record, SetUp, Asks, Start, Deliver, Store, Nonce, MakeList, Project, Encrypt, Decrypt, Parse}
use Rattle.rules.specs.Session.{Reading, found, malformed, ended, number, two_bytes, body_length, body_lengths, is_within, record_of, body_number, read_body, read_record, kind_of, values_of, bytes_of, record_bytes, has_record}
use Rattle.rules.proofs.Logic.{and_left, and_right, never}

-- ---- what reading gives, by its tests
module _ (file : List ℕ) (b l : ℕ) where
  pub body_found : b + l ≤ length file → is_within (body_lengths (get_or file b 0)) l ≡ true
      → read_body file b l ≡ found (record_of (get_or file b 0) (l / 2) (body_number file b (l / 2))) (b + l)
  unfolding read_body
  body_found h w = rw (le-leb _ _ h, w) refl

  pub body_long : length file < b + l → read_body file b l ≡ malformed
  unfolding read_body
  body_long h = rw (lt-leb _ _ h) refl

  pub body_unfit : b + l ≤ length file → is_within (body_lengths (get_or file b 0)) l ≡ false → read_body file b l ≡ malformed
  unfolding read_body
  body_unfit h w = rw (le-leb _ _ h, w) refl

module _ (file : List ℕ) (at : ℕ) where
  pub reads_end : length file ≤ at → read_record file at ≡ ended
  unfolding read_record
  reads_end h = rw (le-leb _ _ h) refl

  pub reads_short : at < length file → length file < at + 2 → read_record file at ≡ malformed
  unfolding read_record
  reads_short h s = rw (lt-leb _ _ h, lt-leb _ _ s) refl

  pub reads_body : at + 2 ≤ length file → read_record file at ≡ read_body file (at + 2) (number file at)
  unfolding read_record
  reads_body h = rw (lt-leb (length file) at (omega arith), le-leb _ _ h) refl

-- ---- a record that is written reads back the same
joined : (n : ℕ) → 256 * (n / 256) + n % 256 ≡ n
joined n = omega arith

record_same : (kind k : ℕ) (x y : ℕ → ℕ) → x 1 ≡ y 1 → x 2 ≡ y 2 → x 3 ≡ y 3 → x 4 ≡ y 4 → record_of kind k x ≡ record_of kind k y
unfolding record_of
record_same kind k x y p q r s = rw (p, q, r, s) refl

-- what stands after some bytes is read as it would be at a file's start
module _ (before q : List ℕ) where
  number_after : (i : ℕ) → number (before ++ q) (length before + i) ≡ number q i
  unfolding number
  number_after i = rw (get_or-append-add before q i 0, add_assoc, get_or-append-add before q (i + 1) 0) refl

  value_after : (k i : ℕ) → body_number (before ++ q) (length before + 2) k i ≡ body_number q 2 k i
  unfolding body_number
  value_after k i =
      let e : length before + 2 + 2 * i - 1 ≡ length before + (2 + 2 * i - 1) = omega arith in
      rw (e, number_after (2 + 2 * i - 1)) refl

  reads_at : (l : ℕ) (r : Record) → number q 0 ≡ l → 2 + l ≤ length q → is_within (body_lengths (get_or q 2 0)) l ≡ true
      → record_of (get_or q 2 0) (l / 2) (body_number q 2 (l / 2)) ≡ r → read_record (before ++ q) (length before) ≡ found r (length before + (2 + l))
  reads_at l r n h w e =
      let file = before ++ q in
      let at = length before in
      let long : length file ≡ at + length q = length-append before q in
      let number_is : number file at ≡ l = subst (λ (i : ℕ). number file i ≡ number q 0) (add-zero at) (number_after 0) ∙ n in
      let kind_is : get_or file (at + 2) 0 ≡ get_or q 2 0 = get_or-append-add before q 2 0 in
      let same : record_of (get_or file (at + 2) 0) (l / 2) (body_number file (at + 2) (l / 2)) ≡ r =
      rw kind_is (record_same (get_or q 2 0) (l / 2) _ _ (value_after (l / 2) 1) (value_after (l / 2) 2) (value_after (l / 2) 3) (value_after (l / 2) 4) ∙ e) in
      let fits : at + 2 + l ≤ length file = omega arith in
      let short : at + 2 ≤ length file = omega arith in
      let known : is_within (body_lengths (get_or file (at + 2) 0)) l ≡ true = rw kind_is w in
      reads_body file at short ∙ rw (number_is, body_found file (at + 2) l fits known, same, add_assoc) refl

module _ (before rest : List ℕ) where
  abbrev Reads : Record → Type 0
  Reads r = read_record (before ++ (record_bytes r ++ rest)) (length before) ≡ found r (length before + length (record_bytes r))

  list_reads : (k a b c d : ℕ) → list_is_asked k (a ∷ b ∷ c ∷ d ∷ []) ≡ true → Reads (Asks (MakeList k a b c d))
  unfolding list_is_asked every is_zero record_bytes bytes_of two_bytes body_length values_of kind_of number body_lengths is_within record_of body_number
  list_reads zero a b c d h = never h refl
  list_reads (suc zero) a b c d h =
      let b₀ = eqb-true b 0 (and_left (eqb b 0) _ h) in
      let h₂ = and_right (eqb b 0) _ h in
      let c₀ = eqb-true c 0 (and_left (eqb c 0) _ h₂) in
      let d₀ = eqb-true d 0 (and_left (eqb d 0) _ (and_right (eqb c 0) _ h₂)) in
      reads_at before _ 3 _ refl (omega arith) refl (rw (joined a, b₀, c₀, d₀) refl)
  list_reads (suc (suc zero)) a b c d h =
      let c₀ = eqb-true c 0 (and_left (eqb c 0) _ h) in
      let d₀ = eqb-true d 0 (and_left (eqb d 0) _ (and_right (eqb c 0) _ h)) in
      reads_at before _ 5 _ refl (omega arith) refl (rw (joined a, joined b, c₀, d₀) refl)
  list_reads (suc (suc (suc zero))) a b c d h =
      let d₀ = eqb-true d 0 (and_left (eqb d 0) _ h) in
      reads_at before _ 7 _ refl (omega arith) refl (rw (joined a, joined b, joined c, d₀) refl)
  list_reads (suc (suc (suc (suc zero)))) a b c d h =
      reads_at before _ 9 _ refl (omega arith) refl (rw (joined a, joined b, joined c, joined d) refl)
  list_reads (suc (suc (suc (suc (suc n))))) a b c d h =
      let k = suc (suc (suc (suc (suc n)))) in
      never (and_left (leb k 4) true (and_right (leb 1 k) (leb k 4 and true) h)) (lt-leb k 4 (omega arith))

  -- the same record, wherever it stands in a file
  pub reads_written : (r : Record) → has_record r ≡ true
      → read_record (before ++ (record_bytes r ++ rest)) (length before) ≡ found r (length before + length (record_bytes r))
  unfolding has_record record_bytes bytes_of two_bytes body_length values_of kind_of number body_lengths is_within record_of body_number
  reads_written (SetUp n m c) h = reads_at before _ 7 _ refl (omega arith) refl (rw (joined n, joined m, joined c) refl)
  reads_written (Asks (Start u v)) h = reads_at before _ 5 _ refl (omega arith) refl (rw (joined u, joined v) refl)
  reads_written (Asks (Deliver s r h₁)) h = reads_at before _ 7 _ refl (omega arith) refl (rw (joined s, joined r, joined h₁) refl)
  reads_written (Asks (Store d)) h = reads_at before _ 3 _ refl (omega arith) refl (rw (joined d) refl)
  reads_written (Asks Nonce) h = reads_at before _ 1 _ refl (omega arith) refl refl
  reads_written (Asks (MakeList k a b c d)) h = list_reads k a b c d h
  reads_written (Asks (Project h₁ i)) h = reads_at before _ 5 _ refl (omega arith) refl (rw (joined h₁, joined i) refl)
  reads_written (Asks (Encrypt k l)) h = reads_at before _ 5 _ refl (omega arith) refl (rw (joined k, joined l) refl)
  reads_written (Asks (Decrypt k c)) h = reads_at before _ 5 _ refl (omega arith) refl (rw (joined k, joined c) refl)
  reads_written (Asks (Parse h₁)) h = reads_at before _ 3 _ refl (omega arith) refl (rw (joined h₁) refl)

-- ---- numbers below 65536 are written in bytes, that is, in numbers below 256
small_more : (a : ℕ) (xs : List ℕ) → a < 256 → ((i : ℕ) → get_or xs i 0 < 256) → (i : ℕ) → get_or (a ∷ xs) i 0 < 256
small_more a xs h f zero = h
small_more a xs h f (suc i) = f i

two_small : (n : ℕ) (xs : List ℕ) → n < 65536 → ((i : ℕ) → get_or xs i 0 < 256) → (i : ℕ) → get_or (two_bytes n ++ xs) i 0 < 256
unfolding two_bytes
two_small n xs h f = small_more (n / 256) (n % 256 ∷ xs) (omega arith) (small_more (n % 256) xs (omega arith) f)

bytes_small : (ns : List ℕ) → ((i : ℕ) → get_or ns i 0 < 65536) → (i : ℕ) → get_or (bytes_of ns) i 0 < 256
unfolding bytes_of
bytes_small [] h = λ i. omega arith
bytes_small (n ∷ ns) h = two_small n (bytes_of ns) (h 0) (bytes_small ns (λ i. h (suc i)))

kinds_small : (r : Record) → kind_of r < 256
unfolding kind_of
kinds_small (SetUp n m c) = omega arith
kinds_small (Asks (Start u v)) = omega arith
kinds_small (Asks (Deliver s r h)) = omega arith
kinds_small (Asks (Store d)) = omega arith
kinds_small (Asks Nonce) = omega arith
kinds_small (Asks (MakeList k a b c d)) = omega arith
kinds_small (Asks (Project h i)) = omega arith
kinds_small (Asks (Encrypt k l)) = omega arith
kinds_small (Asks (Decrypt k c)) = omega arith
kinds_small (Asks (Parse h)) = omega arith

values_few : (r : Record) → length (values_of r) ≤ 4
unfolding values_of
values_few (SetUp n m c) = omega arith
values_few (Asks (Start u v)) = omega arith
values_few (Asks (Deliver s r h)) = omega arith
values_few (Asks (Store d)) = omega arith
values_few (Asks Nonce) = omega arith
values_few (Asks (MakeList k a b c d)) = omega (arith, length-take k (a ∷ b ∷ c ∷ d ∷ []))
values_few (Asks (Project h i)) = omega arith
values_few (Asks (Encrypt k l)) = omega arith
values_few (Asks (Decrypt k c)) = omega arith
values_few (Asks (Parse h)) = omega arith

pub written_bytes : (r : Record) → ((i : ℕ) → get_or (values_of r) i 0 < 65536) → (i : ℕ) → get_or (record_bytes r) i 0 < 256
unfolding record_bytes body_length
written_bytes r h =
    two_small (1 + 2 * length (values_of r)) (kind_of r ∷ bytes_of (values_of r)) (omega (arith, values_few r))
    (small_more (kind_of r) (bytes_of (values_of r)) (kinds_small r) (bytes_small (values_of r) h))

-- ---- a record that was read is written back byte for byte
-- what it means that a record was read
record Whole (file : List ℕ) (at : ℕ) (r : Record) (next : ℕ) : Type 0 where
  fits : at + 2 + number file at ≤ length file
  known : is_within (body_lengths (get_or file (at + 2) 0)) (number file at) ≡ true
  is : r ≡ record_of (get_or file (at + 2) 0) (number file at / 2) (body_number file (at + 2) (number file at / 2))
  end : next ≡ at + 2 + number file at

abbrev is_found : Reading → Bool
is_found (found r next) = true
is_found malformed = false
is_found ended = false

abbrev record_in : Reading → Record
record_in (found r next) = r
record_in malformed = Asks Nonce
record_in ended = Asks Nonce

abbrev next_in : Reading → ℕ
next_in (found r next) = next
next_in malformed = 0
next_in ended = 0

module _ (file : List ℕ) (at : ℕ) (r : Record) (next : ℕ) where
  whole_body : at + 2 ≤ length file → read_body file (at + 2) (number file at) ≡ found r next → Whole file at r next
  whole_body h e = go (dec_le (at + 2 + number file at) (length file)) (is_within (body_lengths (get_or file (at + 2) 0)) (number file at)) refl
    where
      go : Dec (at + 2 + number file at ≤ length file) → (w : Bool) → is_within (body_lengths (get_or file (at + 2) 0)) (number file at) ≡ w → Whole file at r next
      go (yes f) true w =
          let g = sym e ∙ body_found file (at + 2) (number file at) f w in
          record { fits = f; known = w; is = ap record_in g; end = ap next_in g }
      go (yes f) false w = never (ap is_found e) (ap is_found (body_unfit file (at + 2) (number file at) f w))
      go (no f) v w = never (ap is_found e) (ap is_found (body_long file (at + 2) (number file at) (omega arith)))

  whole : read_record file at ≡ found r next → Whole file at r next
  whole e = go (dec_le (length file) at) (dec_le (at + 2) (length file))
    where
      go : Dec (length file ≤ at) → Dec (at + 2 ≤ length file) → Whole file at r next
      go (yes f) d = never (ap is_found e) (ap is_found (reads_end file at f))
      go (no f) (yes g) = whole_body g (sym (reads_body file at g) ∙ e)
      go (no f) (no g) = never (ap is_found e) (ap is_found (reads_short file at (omega arith) (omega arith)))

-- x i and the numbers after it, m in all
abbrev from : (ℕ → ℕ) → ℕ → ℕ → List ℕ
from x i zero = []
from x i (suc m) = x i ∷ from x (suc i) m

within : (low high l : ℕ) → is_within (low ∷ high ∷ []) l ≡ true → (low ≤ l) × (l ≤ high) × (l % 2 ≡ 1)
unfolding is_within
within low high l h =
    let t = and_right (leb low l) _ h in
    (leb-true low l (and_left (leb low l) _ h), leb-true l high (and_left (leb l high) _ t), eqb-true (l % 2) 1 (and_right (leb l high) _ t))

exactly : (n l : ℕ) → is_within (n ∷ n ∷ []) l ≡ true → n ≡ l
exactly n l h = let w = within n n l h in omega (arith, w.0, w.1)

-- a kind that has a body of l bytes: its record has that kind and those numbers, and has bytes if the numbers that the body hasn't are zero
record Fitting (kind l : ℕ) (x : ℕ → ℕ) : Type 0 where
  has : ((i : ℕ) → l / 2 < i → x i ≡ 0) → has_record (record_of kind (l / 2) x) ≡ true
  kind_is : kind_of (record_of kind (l / 2) x) ≡ kind
  values_are : values_of (record_of kind (l / 2) x) ≡ from x 1 (l / 2)

module _ (x : ℕ → ℕ) where
  list_fitting : (l : ℕ) → is_within (body_lengths 5) l ≡ true → Fitting 5 l x
  unfolding body_lengths record_of has_record kind_of values_of list_is_asked every is_zero
  list_fitting l h = go (within 3 9 l h) (ℕ_discrete 3 l) (ℕ_discrete 5 l) (ℕ_discrete 7 l)
    where
      go : (3 ≤ l) × (l ≤ 9) × (l % 2 ≡ 1) → Dec (3 ≡ l) → Dec (5 ≡ l) → Dec (7 ≡ l) → Fitting 5 l x
      go w (yes p) q r =
          subst (λ (n : ℕ). Fitting 5 n x) p
          (record { has = λ z. rw (z 2 (omega arith), z 3 (omega arith), z 4 (omega arith)) refl; kind_is = refl; values_are = refl })
      go w (no p) (yes q) r =
          subst (λ (n : ℕ). Fitting 5 n x) q (record { has = λ z. rw (z 3 (omega arith), z 4 (omega arith)) refl; kind_is = refl; values_are = refl })
      go w (no p) (no q) (yes r) =
          subst (λ (n : ℕ). Fitting 5 n x) r (record { has = λ z. rw (z 4 (omega arith)) refl; kind_is = refl; values_are = refl })
      go w (no p) (no q) (no r) =
          let e : 9 ≡ l = omega (arith, w.0, w.1, w.2) in
          subst (λ (n : ℕ). Fitting 5 n x) e (record { has = λ z. refl; kind_is = refl; values_are = refl })

  fitting : (kind l : ℕ) → is_within (body_lengths kind) l ≡ true → Fitting kind l x
  unfolding body_lengths record_of has_record kind_of values_of is_within
  fitting zero l h = subst (λ (n : ℕ). Fitting 0 n x) (exactly 7 l h) (record { has = λ z. refl; kind_is = refl; values_are = refl })
  fitting (suc zero) l h = subst (λ (n : ℕ). Fitting 1 n x) (exactly 5 l h) (record { has = λ z. refl; kind_is = refl; values_are = refl })
  fitting (suc (suc zero)) l h = subst (λ (n : ℕ). Fitting 2 n x) (exactly 7 l h) (record { has = λ z. refl; kind_is = refl; values_are = refl })
  fitting (suc (suc (suc zero))) l h = subst (λ (n : ℕ). Fitting 3 n x) (exactly 3 l h) (record { has = λ z. refl; kind_is = refl; values_are = refl })
  fitting (suc (suc (suc (suc zero)))) l h = subst (λ (n : ℕ). Fitting 4 n x) (exactly 1 l h) (record { has = λ z. refl; kind_is = refl; values_are = refl })
  fitting (suc (suc (suc (suc (suc zero))))) l h = list_fitting l h
  fitting (suc (suc (suc (suc (suc (suc zero)))))) l h =
      subst (λ (n : ℕ). Fitting 6 n x) (exactly 5 l h) (record { has = λ z. refl; kind_is = refl; values_are = refl })
  fitting (suc (suc (suc (suc (suc (suc (suc zero))))))) l h =
      subst (λ (n : ℕ). Fitting 7 n x) (exactly 5 l h) (record { has = λ z. refl; kind_is = refl; values_are = refl })
  fitting (suc (suc (suc (suc (suc (suc (suc (suc zero)))))))) l h =
      subst (λ (n : ℕ). Fitting 8 n x) (exactly 5 l h) (record { has = λ z. refl; kind_is = refl; values_are = refl })
  fitting (suc (suc (suc (suc (suc (suc (suc (suc (suc zero))))))))) l h =
      subst (λ (n : ℕ). Fitting 9 n x) (exactly 3 l h) (record { has = λ z. refl; kind_is = refl; values_are = refl })
  fitting (suc (suc (suc (suc (suc (suc (suc (suc (suc (suc kind)))))))))) l h = never h refl

odd : (ls : List ℕ) (l : ℕ) → is_within ls l ≡ true → l ≡ 1 + 2 * (l / 2)
unfolding is_within
odd [] l h = never h refl
odd (low ∷ more) l h =
    let e = eqb-true (l % 2) 1 (and_right (leb l (get_or more 0 0)) _ (and_right (leb low l) _ h)) in
    omega (arith, e)

-- a record that was read has at least three bytes, and ends within the file
pub reads_on : (file : List ℕ) (at : ℕ) (r : Record) (next : ℕ) → read_record file at ≡ found r next → (at + 3 ≤ next) × (next ≤ length file)
reads_on file at r next e =
    let w = whole file at r next e in
    (omega (arith, w.end, odd _ (number file at) w.known), omega (arith, w.end, w.fits))

-- m pairs of bytes from a position on
abbrev pairs : List ℕ → ℕ → ℕ → List ℕ
pairs file j zero = []
pairs file j (suc m) = get_or file j 0 ∷ get_or file (suc j) 0 ∷ pairs file (suc (suc j)) m

taken_pairs : (file : List ℕ) (m j : ℕ) → j + 2 * m ≤ length file → take (2 * m) (drop j file) ≡ pairs file j m
taken_pairs file zero j h = refl
taken_pairs file (suc m) j h =
    let e : 2 * suc m ≡ suc (suc (2 * m)) = omega arith in
    let l : j < length file = omega arith in
    let l' : suc j < length file = omega arith in
    rw (e, drop-cons file j 0 l, drop-cons file (suc j) 0 l')
    (ap (λ (r : List ℕ). get_or file j 0 ∷ get_or file (suc j) 0 ∷ r) (taken_pairs file m (suc (suc j)) (omega arith)))

from_long : (x : ℕ → ℕ) (i m : ℕ) → length (from x i m) ≡ m
from_long x i zero = refl
from_long x i (suc m) = ap (λ (n : ℕ). suc n) (from_long x (suc i) m)

pairs_long : (file : List ℕ) (m j : ℕ) → length (pairs file j m) ≡ 2 * m
pairs_long file zero j = refl
pairs_long file (suc m) j = omega (arith, pairs_long file m (suc (suc j)))

value_past : (file : List ℕ) (b k i : ℕ) → k < i → body_number file b k i ≡ 0
unfolding body_number
value_past file b k i h = rw (lt-leb i k h) refl

module _ (file : List ℕ) (small : (i : ℕ) → get_or file i 0 < 256) where
  two_bytes_lem : (j : ℕ) → two_bytes (number file j) ≡ get_or file j 0 ∷ get_or file (j + 1) 0 ∷ []
  unfolding number two_bytes
  two_bytes_lem j =
      let h : (256 * get_or file j 0 + get_or file (j + 1) 0) / 256 ≡ get_or file j 0 = omega (arith, small (j + 1)) in
      let l : (256 * get_or file j 0 + get_or file (j + 1) 0) % 256 ≡ get_or file (j + 1) 0 = omega (arith, small (j + 1)) in
      rw (h, l) refl

  -- the numbers of a body, as the bytes that they were read from
  body_bytes : (b k m i : ℕ) → 1 ≤ i → i + m ≤ k + 1 → bytes_of (from (body_number file b k) i m) ≡ pairs file (b + 2 * i - 1) m
  unfolding bytes_of body_number
  body_bytes b k zero i l h = refl
  body_bytes b k (suc m) i l h =
      let j = b + 2 * i - 1 in
      let e : b + 2 * suc i - 1 ≡ suc (suc j) = omega arith in
      let s : j + 1 ≡ suc j = omega arith in
      rw (le-leb i k (omega arith), two_bytes_lem j, s, body_bytes b k m (suc i) (omega arith) (omega arith), e) refl

  module _ (at : ℕ) (r : Record) (next : ℕ) (e : read_record file at ≡ found r next) where
    body_fitting : (w : Whole file at r next) → Fitting (get_or file (at + 2) 0) (number file at) (body_number file (at + 2) (number file at / 2))
    body_fitting w = fitting _ (get_or file (at + 2) 0) (number file at) w.known

    written_whole : Whole file at r next → has_record r ≡ true
    written_whole w = ap has_record w.is ∙ (body_fitting w).has (λ i h. value_past file (at + 2) (number file at / 2) i h)

    bytes_whole : (w : Whole file at r next) → record_bytes r ≡ get_or file at 0 ∷ get_or file (at + 1) 0 ∷ get_or file (at + 2) 0 ∷ pairs file (at + 3) (number file at / 2)
    unfolding record_bytes body_length
    bytes_whole w =
        let k = number file at / 2 in
        let f = body_fitting w in
        let o : 1 + 2 * k ≡ number file at = sym (odd _ (number file at) w.known) in
        let j : at + 2 + 2 * 1 - 1 ≡ at + 3 = omega arith in
        rw (w.is, f.kind_is, f.values_are, from_long (body_number file (at + 2) k) 1 k, o, two_bytes_lem at, body_bytes (at + 2) k k 1 (omega arith) (omega arith), j) refl

    taken_whole : (w : Whole file at r next)
        → take (next - at) (drop at file) ≡ get_or file at 0 ∷ get_or file (at + 1) 0 ∷ get_or file (at + 2) 0 ∷ pairs file (at + 3) (number file at / 2)
    taken_whole w =
        let k = number file at / 2 in
        let o = odd _ (number file at) w.known in
        let size : next - at ≡ suc (suc (suc (2 * k))) = omega (arith, w.end, o) in
        let l₀ : at < length file = omega (arith, w.fits) in
        let l₁ : suc at < length file = omega (arith, w.fits, o) in
        let l₂ : suc (suc at) < length file = omega (arith, w.fits, o) in
        let fits : at + 3 + 2 * k ≤ length file = omega (arith, w.fits, o) in
        let e₁ : suc at ≡ at + 1 = omega arith in
        let e₂ : suc (suc at) ≡ at + 2 = omega arith in
        let e₃ : suc (suc (suc at)) ≡ at + 3 = omega arith in
        rw (size, drop-cons file at 0 l₀, drop-cons file (suc at) 0 l₁, drop-cons file (suc (suc at)) 0 l₂, e₃, e₂, e₁)
        (ap (λ (p : List ℕ). get_or file at 0 ∷ get_or file (at + 1) 0 ∷ get_or file (at + 2) 0 ∷ p) (taken_pairs file k (at + 3) fits))

    -- a record that was read has bytes, they are as many as were read, and they are those
    pub writes_read : (has_record r ≡ true) × (at + length (record_bytes r) ≡ next) × (take (next - at) (drop at file) ≡ record_bytes r)
    writes_read =
        let w = whole file at r next e in
        let b = bytes_whole w in
        let long : at + length (record_bytes r) ≡ next =
        rw b (omega (arith, w.end, odd _ (number file at) w.known, pairs_long file (number file at / 2) (at + 3))) in
        (written_whole w, long, taken_whole w ∙ sym b)
