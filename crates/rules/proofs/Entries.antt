-- Which terms a well-formed table takes as a new entry, and why its entries go on to fit when it grows: an entry's tests read its own
-- seven numbers, those of entries before it, and the number of participants. Assumes nothing.
use Rattle.std.specs.Prelude.{if◌then◌else◌}
use Prim.Native.Nat.{ℕ, ◌*◌, ◌%◌, ◌≤◌, ◌<◌}
use native.Mathlib.Omega.{arith}
use mathlib.Core.Path.{◌≡◌, refl, sym, ap, ◌∙◌}
use mathlib.Core.Logic.{◌≢◌, ◌⊎◌, inl, inr}
use mathlib.Core.Bool.{Bool, true, false}
use mathlib.Core.List.Memᴰ
use mathlib.Core.List.{List, [], ◌∷◌, ◌++◌, Memᴰ}
use lib.Dec.{leb}
use lib.ListN.{length}
use borrow.Author.Tests.{le-leb, lt-ltb, eqb-true, eq-eqb, ne_eqb}
use Rattle.rules.specs.Table.{Table, word, participants, used, type_at, argument, arguments, length_at}
use Rattle.rules.specs.Terms.{Term, datum, nonce, list, ciphertext, secret_key, public_key, blank, list_type, secret_key_type, is_datum, is_nonce, is_list, is_ciphertext, is_secret_key, is_public_key, type_of, arguments_of, elements, term_at, longest, list_length, ciphertext_length, length_of, numbers_of, public_key_of}
use Rattle.rules.specs.WellFormed.{is_later_type, type_fits, count_of, count_fits, unused_are_zero, nonce_fits, is_earlier, may_be_element, list_fits, is_key_place, ciphertext_fits, length_fits, entry_fits}
use Rattle.rules.proofs.Logic.{both, or_right, implies_from, every_from, sum_same}
use Rattle.rules.proofs.Shaped.{Used, Person}
use Rattle.rules.proofs.Grows.{Grows, term_kept}
use Rattle.rules.proofs.Formed.{Formed}
use Rattle.rules.proofs.Rows.{Reads, row_type, row_length, row_elements, row_zeros, row_term}
use Rattle.rules.proofs.Shaping.{tests_of, tests_whole, length_at_lem, shape}

-- entry e is used and no secret key: it may be listed and granted
pub record Open (t : Table) (e : ℕ) : Type 0 where
  pub uses : Used t e
  pub other : type_at t e ≢ secret_key_type

abbrev pub AllOpen : Table → List ℕ → Type 0
AllOpen t es = (x : ℕ) → Memᴰ x es → Open t x

pub open_none : (t : Table) → AllOpen t []
open_none t x i = absurd (Memᴰ.not-nil i)

pub open_more : (t : Table) (e : ℕ) (es : List ℕ) → Open t e → AllOpen t es → AllOpen t (e ∷ es)
open_more t e es o r x i = go (Memᴰ.cases_cons i)
  where
    go : (x ≡ e) ⊎ Memᴰ x es → Open t x
    go (inl q) = rw q o
    go (inr j) = r x j

pub open_both : (t : Table) (es ds : List ℕ) → AllOpen t es → AllOpen t ds → AllOpen t (es ++ ds)
open_both t es ds o r x i = go (Memᴰ.append_cases es i)
  where
    go : Memᴰ x es ⊎ Memᴰ x ds → Open t x
    go (inl j) = o x j
    go (inr j) = r x j

-- ---- a term for a new entry
-- its parts are there
pub data Parts (t : Table) : Term → Type 0 where
  a_datum : (v : ℕ) → Parts t (datum v)
  a_nonce : (o p : ℕ) → o ≤ participants t → p ≤ participants t → Parts t (nonce o p)
  a_list : (xs : List ℕ) → 1 ≤ length xs → length xs ≤ 4 → AllOpen t xs → Parts t (list xs)
  a_ciphertext : (p l : ℕ) → Person t p → Used t l → type_at t l ≡ list_type → Parts t (ciphertext (public_key_of p) l)

-- and l is its length
pub record Fits (t : Table) (x : Term) (l : ℕ) : Type 0 where
  pub parts : Parts t x
  pub long : l ≡ length_of t x
  pub short : l ≤ longest

-- ---- from table t to a later one
module _ {t t' : Table} (g : Grows t t') where
  pub used_grows : (e : ℕ) → Used t e → Used t' e
  used_grows e u = record { low = u.low; high = omega (arith, u.high, g.more) }

  pub word_grows : (e i : ℕ) → Used t e → i < 7 → word t' e i ≡ word t e i
  word_grows e i u h = g.terms e i u.low u.high h

  pub person_grows : (p : ℕ) → Person t p → Person t' p
  person_grows p w = record { low = w.low; high = omega (arith, w.high, g.head 1 (omega arith)) }

  pub open_grows : (e : ℕ) → Open t e → Open t' e
  open_grows e o = record {
    uses = used_grows e o.uses;
    other = λ q. o.other (sym (word_grows e 0 o.uses (omega arith)) ∙ q);
  }

  pub all_grow : (es : List ℕ) → AllOpen t es → AllOpen t' es
  all_grow es o x i = open_grows x (o x i)

-- ---- the tests that look at other entries, from plain facts
earlier_test : (e x : ℕ) → 1 ≤ x → x < e → is_earlier e x ≡ true
unfolding is_earlier
earlier_test e x a b = both (le-leb 1 x a) (lt-ltb x e b)

element_test : (t : Table) (e x : ℕ) → 1 ≤ x → x < e → type_at t x ≢ secret_key_type → may_be_element t e x ≡ true
unfolding may_be_element
element_test t e x a b n = both (earlier_test e x a b) (rw (ne_eqb (type_at t x) secret_key_type n) refl)

place_test : (t : Table) (p : ℕ) → Person t p → is_key_place t (public_key_of p) ≡ true
unfolding is_key_place public_key_of
place_test t p w =
    both (le-leb 1 (2 * p) (omega (arith, w.low)))
    (both (le-leb (2 * p) (2 * participants t) (omega (arith, w.high))) (eq-eqb (2 * p % 2) 0 (omega arith)))

-- ---- a used entry goes on to fit
abbrev SameLength : Table → Table → Term → Type 0
SameLength t t' x = length_of t' x ≡ length_of t x

module _ (t t' : Table) (f : Formed t) (g : Grows t t') (e : ℕ) (u : Used t e) where
  same : (i : ℕ) → i < 7 → word t' e i ≡ word t e i
  same i h = word_grows g e i u h

  before : (x : ℕ) → 1 ≤ x → x < e → Used t x
  before x a b = record { low = a; high = omega (arith, u.high) }

  elements_same : elements t' e ≡ elements t e
  unfolding elements arguments
  elements_same =
      rw (same 1 (omega arith), same 2 (omega arith), same 3 (omega arith), same 4 (omega arith), same 5 (omega arith)) refl

  types_kept : type_fits t e ≡ true → type_fits t' e ≡ true
  unfolding type_fits
  types_kept h = rw (g.head 1 (omega arith), same 0 (omega arith)) h

  counts_kept : count_fits t e ≡ true → count_fits t' e ≡ true
  unfolding count_fits
  counts_kept h = rw (same 0 (omega arith), same 1 (omega arith)) h

  zeros_kept : unused_are_zero t e ≡ true → unused_are_zero t' e ≡ true
  unfolding unused_are_zero arguments
  zeros_kept h =
      rw (same 1 (omega arith), same 2 (omega arith), same 3 (omega arith), same 4 (omega arith), same 5 (omega arith)) h

  nonces_kept : nonce_fits t e ≡ true → nonce_fits t' e ≡ true
  unfolding nonce_fits
  nonces_kept h = rw (g.head 1 (omega arith), same 0 (omega arith), same 2 (omega arith), same 3 (omega arith)) h

  lists_kept : list_fits t' e ≡ true
  unfolding list_fits
  lists_kept = rw (same 0 (omega arith), elements_same) (implies_from (is_list t e) (λ q. every_from (may_be_element t' e) (elements t e) (λ x i.
      let a = (shape t f).list_elements e u (eqb-true _ _ q) x i in
      element_test t' e x a.0 a.1 (open_grows g x (record { uses = before x a.0 a.1; other = a.2 })).other)))

  ciphers_kept : ciphertext_fits t' e ≡ true
  unfolding ciphertext_fits
  ciphers_kept = rw (same 0 (omega arith), same 2 (omega arith), same 3 (omega arith)) (implies_from (is_ciphertext t e) (λ q.
      let k = (shape t f).cipher_key e u (eqb-true _ _ q) in
      let a = (shape t f).cipher_list e u (eqb-true _ _ q) in
      let place : is_key_place t' (argument t e 1) ≡ true = rw k.2 (place_test t' k.0 (person_grows g k.0 k.1)) in
      both place
      (both (earlier_test e (argument t e 2) a.0 a.1)
      (eq-eqb _ _ (word_grows g (argument t e 2) 0 (before (argument t e 2) a.0 a.1) (omega arith) ∙ a.2)))))

  length_same : length_of t' (term_at t e) ≡ length_of t (term_at t e)
  unfolding term_at length_of
  length_same = go (is_datum t e) (is_nonce t e) (is_list t e) (is_ciphertext t e) (is_secret_key t e) (is_public_key t e) refl refl
    where
      go : (a b c d s p : Bool) → is_list t e ≡ c → is_ciphertext t e ≡ d → SameLength t t'
          (if a then datum (argument t e 1) else
          if b then nonce (argument t e 1) (argument t e 2) else
          if c then list (elements t e) else
          if d then ciphertext (argument t e 1) (argument t e 2) else
          if s then secret_key (argument t e 1) else
          if p then public_key (argument t e 1) else blank)
      go true b c d s p q r = refl
      go false true c d s p q r = refl
      go false false true d s p q r = ap list_length (sum_same (length_at t') (length_at t) (elements t e) (λ x i.
          let a = (shape t f).list_elements e u (eqb-true _ _ q) x i in
          word_grows g x 6 (before x a.0 a.1) (omega arith)))
      go false false false true s p q r =
          let a = (shape t f).cipher_list e u (eqb-true _ _ r) in
          ap ciphertext_length (word_grows g (argument t e 2) 6 (before (argument t e 2) a.0 a.1) (omega arith))
      go false false false false true p q r = refl
      go false false false false false true q r = refl
      go false false false false false false q r = refl

  lengths_kept : length_fits t' e ≡ true
  unfolding length_fits
  lengths_kept =
      rw (term_kept g e u.low u.high, length_same, same 6 (omega arith))
      (both (eq-eqb _ _ (length_at_lem t f e u)) (le-leb _ _ ((shape t f).short e u)))

  pub fits_kept : entry_fits t' e ≡ true
  fits_kept =
      let s = tests_of t e (f.entries e u) in
      tests_whole t' e (record {
        types = types_kept s.types;
        counts = counts_kept s.counts;
        zeros = zeros_kept s.zeros;
        nonces = nonces_kept s.nonces;
        lists = lists_kept;
        ciphers = ciphers_kept;
        lengths = lengths_kept;
      })

-- ---- a new entry fits
-- it is no key
pub parts_later : (t : Table) (x : Term) → Parts t x → is_later_type (type_of x) ≡ true
unfolding is_later_type type_of
parts_later t x (a_datum v) = refl
parts_later t x (a_nonce o p a b) = refl
parts_later t x (a_list xs a b o) = refl
parts_later t x (a_ciphertext p c w u q) = refl

pub parts_few : (t : Table) (x : Term) → Parts t x → length (arguments_of x) ≤ 4
unfolding arguments_of
parts_few t x (a_datum v) = omega arith
parts_few t x (a_nonce o p a b) = omega arith
parts_few t x (a_list xs a b o) = b
parts_few t x (a_ciphertext p c w u q) = omega arith

module _ (t t' : Table) (g : Grows t t') (e : ℕ) (later : used t < e) where
  counts_new : (x : Term) (l : ℕ) → Reads t' e x l → Parts t x → count_fits t' e ≡ true
  unfolding count_fits count_of numbers_of type_of arguments_of
  counts_new x l r (a_datum v) = rw (r 0 (omega arith), r 1 (omega arith)) refl
  counts_new x l r (a_nonce o p a b) = rw (r 0 (omega arith), r 1 (omega arith)) refl
  counts_new x l r (a_list xs a b o) = rw (r 0 (omega arith), r 1 (omega arith)) (both (le-leb _ _ a) (le-leb _ _ b))
  counts_new x l r (a_ciphertext p c w u q) = rw (r 0 (omega arith), r 1 (omega arith)) refl

  nonces_new : (x : Term) (l : ℕ) → Reads t' e x l → Parts t x → nonce_fits t' e ≡ true
  unfolding nonce_fits numbers_of type_of arguments_of
  nonces_new x l r (a_datum v) = rw (r 0 (omega arith)) refl
  nonces_new x l r (a_nonce o p a b) =
      rw (r 0 (omega arith), r 2 (omega arith), r 3 (omega arith), g.head 1 (omega arith)) (both (le-leb _ _ a) (le-leb _ _ b))
  nonces_new x l r (a_list xs a b o) = rw (r 0 (omega arith)) refl
  nonces_new x l r (a_ciphertext p c w u q) = rw (r 0 (omega arith)) refl

  lists_new : (x : Term) (l : ℕ) → Reads t' e x l → Parts t x → list_fits t' e ≡ true
  unfolding list_fits numbers_of type_of arguments_of
  lists_new x l r (a_datum v) = rw (r 0 (omega arith)) refl
  lists_new x l r (a_nonce o p a b) = rw (r 0 (omega arith)) refl
  lists_new x l r (a_list xs a b o) =
      rw (r 0 (omega arith), row_elements t' e (list xs) l r b) (every_from (may_be_element t' e) xs (λ y i.
      let k = o y i in
      element_test t' e y k.uses.low (omega (arith, k.uses.high)) (open_grows g y k).other))
  lists_new x l r (a_ciphertext p c w u q) = rw (r 0 (omega arith)) refl

  ciphers_new : (x : Term) (l : ℕ) → Reads t' e x l → Parts t x → ciphertext_fits t' e ≡ true
  unfolding ciphertext_fits numbers_of type_of arguments_of
  ciphers_new x l r (a_datum v) = rw (r 0 (omega arith)) refl
  ciphers_new x l r (a_nonce o p a b) = rw (r 0 (omega arith)) refl
  ciphers_new x l r (a_list xs a b o) = rw (r 0 (omega arith)) refl
  ciphers_new x l r (a_ciphertext p c w u q) =
      rw (r 0 (omega arith), r 2 (omega arith), r 3 (omega arith))
      (both (place_test t' p (person_grows g p w))
      (both (earlier_test e c u.low (omega (arith, u.high))) (eq-eqb _ _ (word_grows g c 0 u (omega arith) ∙ q))))

  length_new : (x : Term) → Parts t x → length_of t' x ≡ length_of t x
  unfolding length_of
  length_new x (a_datum v) = refl
  length_new x (a_nonce o p a b) = refl
  length_new x (a_list xs a b o) =
      ap list_length (sum_same (length_at t') (length_at t) xs (λ y i. word_grows g y 6 (o y i).uses (omega arith)))
  length_new x (a_ciphertext p c w u q) = ap ciphertext_length (word_grows g c 6 u (omega arith))

  pub fits_new : (x : Term) (l : ℕ) → Reads t' e x l → Fits t x l → entry_fits t' e ≡ true
  unfolding type_fits length_fits
  fits_new x l r h =
      let n = parts_few t x h.parts in
      let same : l ≡ length_of t' (term_at t' e) = rw (row_term t' e x l r n, length_new x h.parts) h.long in
      tests_whole t' e (record {
        types = rw (row_type t' e x l r n, parts_later t x h.parts) (or_right (leb e (2 * participants t')) true refl);
        counts = counts_new x l r h.parts;
        zeros = row_zeros t' e x l r n;
        nonces = nonces_new x l r h.parts;
        lists = lists_new x l r h.parts;
        ciphers = ciphers_new x l r h.parts;
        lengths = rw (row_length t' e x l r n) (both (eq-eqb _ _ same) (le-leb _ _ h.short));
      })
