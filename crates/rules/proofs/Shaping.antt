-- A well-formed table is shaped: each plain fact is one clause's test read at the entry, key or knower in question. Assumes nothing.
use Prim.Native.Nat.{ℕ, ◌+◌, ◌*◌, ◌/◌, ◌%◌, ◌≤◌, ◌<◌}
use native.Mathlib.Omega.{arith}
use native.Mathlib.Decide.{dec_le, ℕ_discrete}
use mathlib.Core.Path.{◌≡◌, refl, ap, ◌∙◌}
use mathlib.Core.Logic.{◌≢◌, ◌⊎◌, inl, inr}
use mathlib.Core.Bool.{Bool, true, false}
use mathlib.Core.List.{Memᴰ}
use lib.Dec.{eqb, leb}
use borrow.Author.Tests.{leb-true, lt-leb, ltb-true, eqb-true, eqb-false, eq-eqb, ne_eqb, not-true}
use Rattle.rules.specs.Choice.{◌and◌}
use Rattle.rules.specs.Table.{Table, most_of, most, version, this_version, participants, mask, capacity, used, next_handle, type_at, count_at, argument, length_at, handle, in_mask, is_participant, honest, every_knower}
use Rattle.rules.specs.Terms.{nonce_type, list_type, ciphertext_type, secret_key_type, public_key_type, is_list, is_secret_key, is_public_key, elements, term_at, longest, nonce_length, length_of, secret_key_of, public_key_of}
use Rattle.rules.specs.Handles.{holds, held}
use Rattle.rules.specs.SetUp.{participants_fit, mask_fits, capacity_fits, holds_secret_key, holds_public_key}
use Rattle.rules.specs.WellFormed.{head_fits, held_as_named, is_secret_key_of, is_public_key_of, keys_fit, is_later_type, type_fits, count_fits, unused_are_zero, nonce_fits, is_earlier, may_be_element, list_fits, is_key_place, ciphertext_fits, length_fits, entry_fits, may_hold, well_formed}
use Rattle.rules.proofs.Logic.{and_left, and_right, both, or_right, fails, implies_use, agree_true, every_at}
use Rattle.rules.proofs.Walks.{count_le}
use Rattle.rules.proofs.Words.{most_of_lem}
use Rattle.rules.proofs.Granting.{holds_some, holds_none, handle_out}
use Rattle.rules.proofs.Shaped.{Used, Person, Shaped}
use Rattle.rules.proofs.Formed.{Formed, formed, knower_at}

-- ---- W2: the ranges of the head
pub record Ranges (t : Table) : Type 0 where
  pub few : participants t ≤ most t
  pub small : capacity t ≤ 512

pub head_plain : (t : Table) → head_fits t ≡ true → Ranges t
unfolding head_fits participants_fit capacity_fits
head_plain t h =
    let h₁ = and_right (eqb (version t) this_version) _ h in
    let h₂ = and_right (participants_fit (participants t)) _ h₁ in
    let h₃ = and_right (mask_fits (participants t) (mask t)) _ h₂ in
    let same : most_of (version t) ≡ most_of this_version = ap most_of (eqb-true (version t) this_version (and_left _ _ h)) in
    let people : participants_fit (participants t) ≡ true = and_left _ _ h₁ in
    let room : capacity_fits (capacity t) ≡ true = and_left _ _ h₃ in
    let high : participants t ≤ most_of this_version = leb-true _ _ (and_right (leb 2 (participants t)) _ people) in
    record { few = rw (most_of_lem t, same) high; small = leb-true _ _ (and_right (leb 16 (capacity t)) _ room) }

-- ---- W4: the keys of participant p
pub record Keys (t : Table) (p : ℕ) : Type 0 where
  pub secret_type : type_at t (secret_key_of p) ≡ secret_key_type
  pub secret_whose : argument t (secret_key_of p) 1 ≡ p
  pub secret_holders : (k : ℕ) → k ≤ most t → holds t k (secret_key_of p) ≡ holds_secret_key (mask t) p k
  pub public_type : type_at t (public_key_of p) ≡ public_key_type
  pub public_whose : argument t (public_key_of p) 1 ≡ p
  pub public_holders : (k : ℕ) → k ≤ most t → holds t k (public_key_of p) ≡ holds_public_key (mask t) k

named_plain : (t : Table) (named : ℕ → Bool) (e : ℕ) → every_knower t (held_as_named t named e) ≡ true → (k : ℕ) → k ≤ most t
    → holds t k e ≡ named k
unfolding held_as_named
named_plain t named e h k l = agree_true (holds t k e) (named k) (knower_at t (held_as_named t named e) h k l)

pub keys_plain : (t : Table) (p : ℕ) → keys_fit t p ≡ true → Keys t p
unfolding keys_fit is_secret_key_of is_public_key_of
keys_plain t p h =
    let s : is_secret_key_of t p (secret_key_of p) ≡ true = and_left _ _ h in
    let q : is_public_key_of t p (public_key_of p) ≡ true = and_right (is_secret_key_of t p (secret_key_of p)) _ h in
    let s₁ = and_right (is_secret_key t (secret_key_of p)) _ s in
    let q₁ = and_right (is_public_key t (public_key_of p)) _ q in
    record {
      secret_type = eqb-true _ _ (and_left _ _ s);
      secret_whose = eqb-true _ _ (and_left _ _ s₁);
      secret_holders = named_plain t _ (secret_key_of p) (and_right (eqb (argument t (secret_key_of p) 1) p) _ s₁);
      public_type = eqb-true _ _ (and_left _ _ q);
      public_whose = eqb-true _ _ (and_left _ _ q₁);
      public_holders = named_plain t _ (public_key_of p) (and_right (eqb (argument t (public_key_of p) 1) p) _ q₁);
    }

-- the entries of the keys are those of one participant each, by their parity
pub data KeyPlace (t : Table) (e : ℕ) : Type 0 where
  secret : (p : ℕ) → Person t p → e ≡ secret_key_of p → KeyPlace t e
  public : (p : ℕ) → Person t p → e ≡ public_key_of p → KeyPlace t e

pub key_place : (t : Table) (e : ℕ) → 1 ≤ e → e ≤ 2 * participants t → KeyPlace t e
unfolding secret_key_of public_key_of
key_place t e a b = go (ℕ_discrete (e % 2) 0)
  where
    go : Dec (e % 2 ≡ 0) → KeyPlace t e
    go (yes q) = public (e / 2) (record { low = omega arith; high = omega arith }) (omega arith)
    go (no q) = secret ((e + 1) / 2) (record { low = omega arith; high = omega arith }) (omega arith)

-- ---- W5 to W10: the seven tests of an entry
pub record Tests (t : Table) (e : ℕ) : Type 0 where
  pub types : type_fits t e ≡ true
  pub counts : count_fits t e ≡ true
  pub zeros : unused_are_zero t e ≡ true
  pub nonces : nonce_fits t e ≡ true
  pub lists : list_fits t e ≡ true
  pub ciphers : ciphertext_fits t e ≡ true
  pub lengths : length_fits t e ≡ true

pub tests_of : (t : Table) (e : ℕ) → entry_fits t e ≡ true → Tests t e
unfolding entry_fits
tests_of t e h =
    let h₁ = and_right (type_fits t e) _ h in
    let h₂ = and_right (count_fits t e) _ h₁ in
    let h₃ = and_right (unused_are_zero t e) _ h₂ in
    let h₄ = and_right (nonce_fits t e) _ h₃ in
    let h₅ = and_right (list_fits t e) _ h₄ in
    record {
      types = and_left _ _ h;
      counts = and_left _ _ h₁;
      zeros = and_left _ _ h₂;
      nonces = and_left _ _ h₃;
      lists = and_left _ _ h₄;
      ciphers = and_left _ _ h₅;
      lengths = and_right (ciphertext_fits t e) _ h₅;
    }

pub tests_whole : (t : Table) (e : ℕ) → Tests t e → entry_fits t e ≡ true
unfolding entry_fits
tests_whole t e s =
    both s.types (both s.counts (both s.zeros (both s.nonces (both s.lists (both s.ciphers s.lengths)))))

pub later_low : (y : ℕ) → is_later_type y ≡ true → y ≤ 4
unfolding is_later_type
later_low y h = leb-true _ _ (and_right (leb 1 y) _ h)

-- ---- what the tests say of a used entry
module _ (t : Table) (f : Formed t) (e : ℕ) (u : Used t e) where
  tests : Tests t e
  tests = tests_of t e (f.entries e u)

  list_count_at : type_at t e ≡ list_type → (1 ≤ count_at t e) × (count_at t e ≤ 4)
  unfolding count_fits
  list_count_at q =
      let h : leb 1 (count_at t e) and leb (count_at t e) 4 ≡ true = rw (eq-eqb (type_at t e) list_type q) at tests.counts in
      (leb-true _ _ (and_left _ _ h), leb-true _ _ (and_right (leb 1 (count_at t e)) _ h))

  earlier_plain : (x : ℕ) → is_earlier e x ≡ true → (1 ≤ x) × (x < e)
  unfolding is_earlier
  earlier_plain x h = (leb-true _ _ (and_left _ _ h), ltb-true _ _ (and_right (leb 1 x) _ h))

  element_plain : (x : ℕ) → may_be_element t e x ≡ true → (1 ≤ x) × (x < e) × (type_at t x ≢ secret_key_type)
  unfolding may_be_element
  element_plain x h =
      let w = earlier_plain x (and_left _ _ h) in
      (w.0, w.1, eqb-false _ _ (not-true _ (and_right (is_earlier e x) _ h)))

  list_elements_at : type_at t e ≡ list_type → (x : ℕ) → Memᴰ x (elements t e) → (1 ≤ x) × (x < e) × (type_at t x ≢ secret_key_type)
  unfolding list_fits
  list_elements_at q x i =
      element_plain x (every_at (may_be_element t e) (elements t e) (implies_use tests.lists (eq-eqb (type_at t e) list_type q)) x i)

  cipher_plain : type_at t e ≡ ciphertext_type → is_key_place t (argument t e 1) and is_earlier e (argument t e 2) and is_list t (argument t e 2) ≡ true
  unfolding ciphertext_fits
  cipher_plain q = implies_use tests.ciphers (eq-eqb (type_at t e) ciphertext_type q)

  cipher_key_at : type_at t e ≡ ciphertext_type → (p : ℕ) × (Person t p) × (argument t e 1 ≡ public_key_of p)
  unfolding is_key_place public_key_of
  cipher_key_at q =
      let x = argument t e 1 in
      let h : is_key_place t x ≡ true = and_left _ _ (cipher_plain q) in
      let h₁ = and_right (leb 1 x) _ h in
      let low : 1 ≤ x = leb-true _ _ (and_left _ _ h) in
      let high : x ≤ 2 * participants t = leb-true _ _ (and_left _ _ h₁) in
      let even : x % 2 ≡ 0 = eqb-true _ _ (and_right (leb x (2 * participants t)) _ h₁) in
      (x / 2, record { low = omega arith; high = omega arith }, omega arith)

  cipher_list_at : type_at t e ≡ ciphertext_type
      → (1 ≤ argument t e 2) × (argument t e 2 < e) × (type_at t (argument t e 2) ≡ list_type)
  cipher_list_at q =
      let h = and_right (is_key_place t (argument t e 1)) _ (cipher_plain q) in
      let w = earlier_plain (argument t e 2) (and_left _ _ h) in
      (w.0, w.1, eqb-true _ _ (and_right (is_earlier e (argument t e 2)) _ h))

  nonce_people_at : type_at t e ≡ nonce_type → (argument t e 1 ≤ participants t) × (argument t e 2 ≤ participants t)
  unfolding nonce_fits
  nonce_people_at q =
      let h = implies_use tests.nonces (eq-eqb (type_at t e) nonce_type q) in
      (leb-true _ _ (and_left _ _ h), leb-true _ _ (and_right (leb (argument t e 1) (participants t)) _ h))

  pub length_at_lem : length_at t e ≡ length_of t (term_at t e)
  unfolding length_fits
  length_at_lem = eqb-true _ _ (and_left _ _ tests.lengths)

  nonce_length_at : type_at t e ≡ nonce_type → length_at t e ≡ nonce_length
  unfolding term_at length_of
  nonce_length_at q = length_at_lem ∙ rw q refl

  short_at : length_at t e ≤ longest
  unfolding length_fits
  short_at = leb-true _ _ (and_right (eqb (length_at t e) (length_of t (term_at t e))) _ tests.lengths)

  -- after the keys there is no key
  key_early : 5 ≤ type_at t e → e ≤ 2 * participants t
  unfolding type_fits
  key_early h = go (dec_le e (2 * participants t))
    where
      go : Dec (e ≤ 2 * participants t) → e ≤ 2 * participants t
      go (yes l) = l
      go (no l) =
          let late : is_later_type (type_at t e) ≡ true = rw (lt-leb e (2 * participants t) (omega arith)) at tests.types in
          absurd (omega (arith, later_low (type_at t e) late))

  secret_key_at : type_at t e ≡ secret_key_type → Person t (argument t e 1) × (e ≡ secret_key_of (argument t e 1))
  secret_key_at q = go (key_place t e u.low (key_early (omega arith)))
    where
      go : KeyPlace t e → Person t (argument t e 1) × (e ≡ secret_key_of (argument t e 1))
      go (secret p w z) =
          let whose : argument t e 1 ≡ p = rw z (keys_plain t p (f.keys p w)).secret_whose in
          rw whose (w, z)
      go (public p w z) =
          let other : type_at t e ≡ public_key_type = rw z (keys_plain t p (f.keys p w)).public_type in
          absurd (omega arith)

  public_key_at : type_at t e ≡ public_key_type → Person t (argument t e 1) × (e ≡ public_key_of (argument t e 1))
  public_key_at q = go (key_place t e u.low (key_early (omega arith)))
    where
      go : KeyPlace t e → Person t (argument t e 1) × (e ≡ public_key_of (argument t e 1))
      go (secret p w z) =
          let other : type_at t e ≡ secret_key_type = rw z (keys_plain t p (f.keys p w)).secret_type in
          absurd (omega arith)
      go (public p w z) =
          let whose : argument t e 1 ≡ p = rw z (keys_plain t p (f.keys p w)).public_whose in
          rw whose (w, z)

-- ---- what the tests say of the knowers
pub honest_knower : (t : Table) (k : ℕ) → honest t k ≡ true → (k ≤ most t) × (in_mask (mask t) k ≡ true)
unfolding honest is_participant
honest_knower t k h =
    let q = and_right (leb 1 k) _ (and_left (is_participant t k) _ h) in
    (leb-true _ _ (and_right (leb k (participants t)) _ q), and_right (is_participant t k) _ h)

pub participant_person : (t : Table) (p : ℕ) → is_participant t p ≡ true → Person t p
unfolding is_participant
participant_person t p h =
    let q = and_right (leb 1 p) _ h in
    record { low = leb-true _ _ (and_left _ _ h); high = leb-true _ _ (and_left _ _ q) }

module _ (t : Table) (f : Formed t) where
  next_small_at : (k : ℕ) → next_handle t k ≤ 1 + used t
  unfolding held
  next_small_at k = omega (arith, (f.knowers k).counted.next, count_le (holds t k) (used t))

  -- who may hold nothing has the next handle 1, and all handles are below it
  strangers_at : (k e : ℕ) → k ≢ 0 → honest t k ≡ false → Used t e → handle t k e ≡ 0
  unfolding may_hold
  strangers_at k e n h u =
      let none : held t k ≡ 0 = eqb-true _ _ (rw (ne_eqb k 0 n, h) at (f.knowers k).may) in
      omega (arith, (f.knowers k).counted.next, (f.knowers k).counted.below e u)

  module _ (p : ℕ) (w : Person t p) where
    keys_at : Keys t p
    keys_at = keys_plain t p (f.keys p w)

    public_held_at : (k : ℕ) → (k ≡ 0) ⊎ (honest t k ≡ true) → holds t k (public_key_of p) ≡ true
    unfolding holds_public_key
    public_held_at k (inl z) = keys_at.public_holders k (omega arith) ∙ rw (eq-eqb k 0 z) refl
    public_held_at k (inr h) = keys_at.public_holders k (honest_knower t k h).0 ∙ rw (honest_knower t k h).1 (or_right (eqb k 0) true refl)

    secret_held_at : (k : ℕ) → honest t p ≡ true → k ≢ p → handle t k (secret_key_of p) ≡ 0
    unfolding holds_secret_key
    secret_held_at k h n = go (dec_le k (most t))
      where
        go : Dec (k ≤ most t) → handle t k (secret_key_of p) ≡ 0
        go (yes l) = holds_none t k (secret_key_of p) (keys_at.secret_holders k l ∙ rw ((honest_knower t p h).1, ne_eqb k p n) refl)
        go (no l) = handle_out t k (secret_key_of p) (omega arith)

    secret_open_at : holds t 0 (secret_key_of p) ≡ true → honest t p ≡ false
    secret_open_at h = fails (honest t p) (λ q. holds_some t 0 (secret_key_of p) h (secret_held_at 0 q (λ z. omega (arith, w.low))))

  pub shape : Shaped t
  shape =
      let ranges = head_plain t f.head in
      record {
        long = f.long;
        few = ranges.few;
        keyed = f.keyed;
        room = f.room;
        small = ranges.small;
        list_count = list_count_at t f;
        list_elements = list_elements_at t f;
        cipher_key = cipher_key_at t f;
        cipher_list = cipher_list_at t f;
        secret_key = secret_key_at t f;
        public_key = public_key_at t f;
        key_types = λ p w. let k = keys_at p w in (k.secret_type, k.secret_whose, k.public_type, k.public_whose);
        nonce_people = nonce_people_at t f;
        nonce_length_lem = nonce_length_at t f;
        short = short_at t f;
        below = λ k e u. (f.knowers k).counted.below e u;
        next_small = next_small_at;
        strangers = strangers_at;
        public_held = λ p k w. public_held_at p w k;
        secret_held = λ p k w. secret_held_at p w k;
        secret_open = secret_open_at;
      }

pub shaped : (t : Table) → well_formed t ≡ true → Shaped t
shaped t h = shape t (formed t h)
