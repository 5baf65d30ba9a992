-- A used entry's term and its words say the same: the term is read off the type, so the type gives the term's kind and the arguments
-- its parts, and a search by words finds a term. Assumes nothing.
use Rattle.std.specs.Prelude.{if◌then◌else◌}
use Prim.Native.Nat.{ℕ, ◌≤◌}
use native.Mathlib.Omega.{arith}
use native.Mathlib.Decide.{dec_le}
use mathlib.Core.Path.{◌≡◌, refl, sym, ap, ◌∙◌}
use mathlib.Core.Logic.{◌≢◌}
use mathlib.Core.Bool.{Bool, true, false}
use mathlib.Core.List.{List}
use lib.Dec.{eqb, leb}
use borrow.Author.Tests.{eqb-true, eq-eqb}
use Rattle.rules.specs.Choice.{◌and◌, same, lowest}
use Rattle.rules.specs.Table.{Table, used, type_at, argument}
use Rattle.rules.specs.Terms.{Term, datum, nonce, list, ciphertext, secret_key, public_key, blank, data_type, nonce_type, list_type, ciphertext_type, secret_key_type, public_key_type, is_datum, is_nonce, is_list, elements, term_at, is_datum_of, find_datum, is_list_of, find_list, is_nonce_of}
use Rattle.rules.specs.Handshake.{term_in}
use Rattle.rules.proofs.Logic.{and_left, and_right, both, never, same_true}
use Rattle.rules.proofs.Walks.{Lowest, nowhere, somewhere, lowest_is}
use Rattle.rules.proofs.Shaped.{Used}
use Rattle.rules.proofs.Grows.{Grows, term_in_lem, term_out, term_zero, term_stays}

-- ---- the words of an entry, by its term
pub data Reads (t : Table) (e : ℕ) : Term → Type 0 where
  as_datum : type_at t e ≡ data_type → Reads t e (datum (argument t e 1))
  as_nonce : type_at t e ≡ nonce_type → Reads t e (nonce (argument t e 1) (argument t e 2))
  as_list : type_at t e ≡ list_type → Reads t e (list (elements t e))
  as_ciphertext : type_at t e ≡ ciphertext_type → Reads t e (ciphertext (argument t e 1) (argument t e 2))
  as_secret : type_at t e ≡ secret_key_type → Reads t e (secret_key (argument t e 1))
  as_public : type_at t e ≡ public_key_type → Reads t e (public_key (argument t e 1))
  as_blank : Reads t e blank

by_type : (P : Term → Type 0) (m n : ℕ) {x y : Term} → (m ≡ n → P x) → P y → P (if eqb m n then x else y)
by_type P m n {x} {y} f q = go (eqb m n) refl
  where
    go : (b : Bool) → eqb m n ≡ b → P (if b then x else y)
    go true p = f (eqb-true m n p)
    go false p = q

pub reads : (t : Table) (e : ℕ) → Reads t e (term_in t e)
unfolding term_in term_at
reads t e = go (leb 1 e and leb e (used t))
  where
    at : Reads t e (term_at t e)
    at =
        by_type (Reads t e) (type_at t e) data_type (λ p. as_datum p)
        (by_type (Reads t e) (type_at t e) nonce_type (λ p. as_nonce p)
        (by_type (Reads t e) (type_at t e) list_type (λ p. as_list p)
        (by_type (Reads t e) (type_at t e) ciphertext_type (λ p. as_ciphertext p)
        (by_type (Reads t e) (type_at t e) secret_key_type (λ p. as_secret p)
        (by_type (Reads t e) (type_at t e) public_key_type (λ p. as_public p) as_blank)))))

    go : (b : Bool) → Reads t e (if b then term_at t e else blank)
    go true = at
    go false = as_blank

-- two kinds of term are never the same: `cc` makes 0 ≡ 1 of it
pub clash {ℓ} : {A : Type ℓ} → ◌≡◌ {A = ℕ} 0 1 → A
clash z = absurd (omega arith)

module _ (t : Table) (e : ℕ) where
  datum_by : {x : Term} {d : ℕ} → Reads t e x → x ≡ datum d → (type_at t e ≡ data_type) × (argument t e 1 ≡ d)
  datum_by (as_datum p) q = (p, cc)
  datum_by (as_nonce p) q = clash (cc)
  datum_by (as_list p) q = clash (cc)
  datum_by (as_ciphertext p) q = clash (cc)
  datum_by (as_secret p) q = clash (cc)
  datum_by (as_public p) q = clash (cc)
  datum_by as_blank q = clash (cc)

  nonce_by : {x : Term} {a b : ℕ} → Reads t e x → x ≡ nonce a b → (type_at t e ≡ nonce_type) × (argument t e 1 ≡ a) × (argument t e 2 ≡ b)
  nonce_by (as_datum p) q = clash (cc)
  nonce_by (as_nonce p) q = (p, cc, cc)
  nonce_by (as_list p) q = clash (cc)
  nonce_by (as_ciphertext p) q = clash (cc)
  nonce_by (as_secret p) q = clash (cc)
  nonce_by (as_public p) q = clash (cc)
  nonce_by as_blank q = clash (cc)

  list_by : {x : Term} {xs : List ℕ} → Reads t e x → x ≡ list xs → (type_at t e ≡ list_type) × (elements t e ≡ xs)
  list_by (as_datum p) q = clash (cc)
  list_by (as_nonce p) q = clash (cc)
  list_by (as_list p) q = (p, cc)
  list_by (as_ciphertext p) q = clash (cc)
  list_by (as_secret p) q = clash (cc)
  list_by (as_public p) q = clash (cc)
  list_by as_blank q = clash (cc)

  ciphertext_by : {x : Term} {k l : ℕ} → Reads t e x → x ≡ ciphertext k l
      → (type_at t e ≡ ciphertext_type) × (argument t e 1 ≡ k) × (argument t e 2 ≡ l)
  ciphertext_by (as_datum p) q = clash (cc)
  ciphertext_by (as_nonce p) q = clash (cc)
  ciphertext_by (as_list p) q = clash (cc)
  ciphertext_by (as_ciphertext p) q = (p, cc, cc)
  ciphertext_by (as_secret p) q = clash (cc)
  ciphertext_by (as_public p) q = clash (cc)
  ciphertext_by as_blank q = clash (cc)

  -- ---- from the term to the words
  pub datum_words : {d : ℕ} → term_in t e ≡ datum d → (type_at t e ≡ data_type) × (argument t e 1 ≡ d)
  datum_words q = datum_by (reads t e) q

  pub nonce_words : {a b : ℕ} → term_in t e ≡ nonce a b → (type_at t e ≡ nonce_type) × (argument t e 1 ≡ a) × (argument t e 2 ≡ b)
  nonce_words q = nonce_by (reads t e) q

  pub list_words : {xs : List ℕ} → term_in t e ≡ list xs → (type_at t e ≡ list_type) × (elements t e ≡ xs)
  list_words q = list_by (reads t e) q

  pub ciphertext_words : {k l : ℕ} → term_in t e ≡ ciphertext k l
      → (type_at t e ≡ ciphertext_type) × (argument t e 1 ≡ k) × (argument t e 2 ≡ l)
  ciphertext_words q = ciphertext_by (reads t e) q

  -- an entry that is something is used
  pub term_used : {x : Term} → term_in t e ≡ x → x ≢ blank → Used t e
  term_used {x} q n = go (dec_le 1 e) (dec_le e (used t))
    where
      go : Dec (1 ≤ e) → Dec (e ≤ used t) → Used t e
      go (yes a) (yes b) = record { low = a; high = b }
      go (yes a) (no b) = absurd (n (sym q ∙ term_out t e (omega arith)))
      go (no a) d = absurd (n (sym q ∙ (let z : e ≡ 0 = omega arith in rw z (term_zero t))))

  -- ---- from the words to the term
  module _ (u : Used t e) where
    pub datum_term : type_at t e ≡ data_type → term_in t e ≡ datum (argument t e 1)
    unfolding term_at
    datum_term p = term_in_lem t e u.low u.high ∙ rw p refl

    pub nonce_term : type_at t e ≡ nonce_type → term_in t e ≡ nonce (argument t e 1) (argument t e 2)
    unfolding term_at
    nonce_term p = term_in_lem t e u.low u.high ∙ rw p refl

    pub list_term : type_at t e ≡ list_type → term_in t e ≡ list (elements t e)
    unfolding term_at
    list_term p = term_in_lem t e u.low u.high ∙ rw p refl

    pub ciphertext_term : type_at t e ≡ ciphertext_type → term_in t e ≡ ciphertext (argument t e 1) (argument t e 2)
    unfolding term_at
    ciphertext_term p = term_in_lem t e u.low u.high ∙ rw p refl

    pub secret_term : type_at t e ≡ secret_key_type → term_in t e ≡ secret_key (argument t e 1)
    unfolding term_at
    secret_term p = term_in_lem t e u.low u.high ∙ rw p refl

    pub public_term : type_at t e ≡ public_key_type → term_in t e ≡ public_key (argument t e 1)
    unfolding term_at
    public_term p = term_in_lem t e u.low u.high ∙ rw p refl

  -- ---- the tests for a term
  pub is_datum_lem : {d : ℕ} → term_in t e ≡ datum d → is_datum_of t d e ≡ true
  unfolding is_datum_of
  is_datum_lem {d} q =
      let w = datum_words q in
      both (eq-eqb (type_at t e) data_type w.0) (eq-eqb (argument t e 1) d w.1)

  pub is_nonce_lem : {a b : ℕ} → term_in t e ≡ nonce a b → is_nonce_of t a b e ≡ true
  unfolding is_nonce_of
  is_nonce_lem {a} {b} q =
      let w = nonce_words q in
      both (eq-eqb (type_at t e) nonce_type w.0) (both (eq-eqb (argument t e 1) a w.1) (eq-eqb (argument t e 2) b w.2))

  pub datum_is : (d : ℕ) → Used t e → is_datum_of t d e ≡ true → term_in t e ≡ datum d
  unfolding is_datum_of
  datum_is d u h =
      datum_term u (eqb-true (type_at t e) data_type (and_left (is_datum t e) (eqb (argument t e 1) d) h))
      ∙ ap (λ (x : ℕ). datum x) (eqb-true (argument t e 1) d (and_right (is_datum t e) (eqb (argument t e 1) d) h))

  pub nonce_is : (a b : ℕ) → Used t e → is_nonce_of t a b e ≡ true → term_in t e ≡ nonce a b
  unfolding is_nonce_of
  nonce_is a b u h =
      let h' = and_right (is_nonce t e) (eqb (argument t e 1) a and eqb (argument t e 2) b) h in
      let p = eqb-true (argument t e 1) a (and_left (eqb (argument t e 1) a) (eqb (argument t e 2) b) h') in
      let q = eqb-true (argument t e 2) b (and_right (eqb (argument t e 1) a) (eqb (argument t e 2) b) h') in
      nonce_term u (eqb-true (type_at t e) nonce_type (and_left (is_nonce t e) (eqb (argument t e 1) a and eqb (argument t e 2) b) h)) ∙ rw (p, q) refl

  pub list_is : (xs : List ℕ) → Used t e → is_list_of t xs e ≡ true → term_in t e ≡ list xs
  unfolding is_list_of
  list_is xs u h =
      list_term u (eqb-true (type_at t e) list_type (and_left (is_list t e) (same (elements t e) xs) h))
      ∙ ap (λ (ys : List ℕ). list ys) (same_true (elements t e) xs (and_right (is_list t e) (same (elements t e) xs) h))

-- ---- an entry that is something stays it
abbrev pub is_blank : Term → Bool
is_blank (datum v) = false
is_blank (nonce o p) = false
is_blank (list xs) = false
is_blank (ciphertext k l) = false
is_blank (secret_key p) = false
is_blank (public_key p) = false
is_blank blank = true

pub term_keeps : {t t' : Table} → Grows t t' → (e : ℕ) {x : Term} → term_in t e ≡ x → is_blank x ≡ false → term_in t' e ≡ x
term_keeps {t} g e q solid =
    let u = term_used t e q (λ z. never (ap is_blank z) solid) in
    term_stays g e u.low u.high ∙ q

-- ---- what a search finds: nothing, or a used entry with the term searched for
pub data Found (t : Table) (x : Term) (e : ℕ) : Type 0 where
  absent : e ≡ 0 → Found t x e
  present : Used t e → term_in t e ≡ x → Found t x e

finds : (t : Table) (x : Term) (f : ℕ → Bool) → ((e : ℕ) → Used t e → f e ≡ true → term_in t e ≡ x) → Found t x (lowest f (used t))
finds t x f h = go (lowest f (used t)) (lowest_is f (used t))
  where
    go : (r : ℕ) → Lowest f (used t) r → Found t x r
    go r (nowhere z n) = absent z
    go r (somewhere a b p m) = let u : Used t r = record { low = a; high = b } in present u (h r u p)

pub datum_found : (t : Table) (d : ℕ) → Found t (datum d) (find_datum t d)
unfolding find_datum
datum_found t d = finds t (datum d) (is_datum_of t d) (λ e u h. datum_is t e d u h)

pub list_found : (t : Table) (xs : List ℕ) → Found t (list xs) (find_list t xs)
unfolding find_list
list_found t xs = finds t (list xs) (is_list_of t xs) (λ e u h. list_is t e xs u h)

pub found_later : {t s : Table} {x : Term} {e : ℕ} → Grows t s → Found t x e → Found s x e
found_later g (absent z) = absent z
found_later {e = e} g (present u is) =
    present (record { low = u.low; high = omega (arith, u.high, g.more) }) (term_stays g e u.low u.high ∙ is)
