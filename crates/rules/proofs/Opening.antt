-- How a delivered message is read: the entries that it is made of are used, their types say what they are, and the tests for a first,
-- second and third message say which elements its list has. Assumes nothing.
use Rattle.std.specs.Prelude.{if◌then◌else◌}
use Prim.Native.Nat.{ℕ, zero, suc, ◌≤◌}
use native.Mathlib.Omega.{arith}
use mathlib.Core.Path.{◌≡◌, refl, ap, ◌∙◌}
use mathlib.Core.Bool.{Bool, true, false}
use mathlib.Core.List.{List, [], ◌∷◌, Memᴰ}
use lib.Dec.{eqb, leb}
use lib.ListN.{take}
use borrow.Author.Tests.{leb-true, eqb-true}
use Rattle.rules.specs.Choice.{◌and◌}
use Rattle.rules.specs.Table.{Table, type_at, count_at, argument, arguments}
use Rattle.rules.specs.Terms.{datum, nonce, list, ciphertext, list_type, ciphertext_type, is_ciphertext, elements, public_key_of, is_datum_of, is_nonce_of}
use Rattle.rules.specs.Handles.{entry_of}
use Rattle.rules.specs.Steps.{Message, first, second, third, none, read_one, read_two, read_more, read_list, is_for, sealed_in, plain_in, opened}
use Rattle.rules.specs.Handshake.{term_in, Carries}
use Rattle.rules.proofs.Logic.{and_left, and_right, take_mem, each_cons}
use Rattle.rules.proofs.Shaped.{Used, Shaped}
use Rattle.rules.proofs.Grows.{Grows}
use Rattle.rules.proofs.Reading.{list_term, ciphertext_term, datum_is, nonce_is}
use Rattle.rules.proofs.Reading.{term_keeps}
use Rattle.rules.proofs.Moves.{Learns, reads, lists, seals}

pub by_test {ℓ} : {A : Type 0} (P : A → Type ℓ) (b : Bool) {x y : A} → (b ≡ true → P x) → P y → P (if b then x else y)
by_test P true p q = p refl
by_test P false p q = q

-- ---- the elements of a list, by its count
module _ (t : Table) (l : ℕ) where
  elements_one : count_at t l ≡ 1 → elements t l ≡ argument t l 1 ∷ []
  unfolding elements arguments
  elements_one q = rw q refl

  elements_two : count_at t l ≡ 2 → elements t l ≡ argument t l 1 ∷ argument t l 2 ∷ []
  unfolding elements arguments
  elements_two q = rw q refl

  elements_some : 1 ≤ count_at t l → (xs : List ℕ) × (elements t l ≡ argument t l 1 ∷ xs)
  unfolding elements arguments
  elements_some h = go (count_at t l) h
    where
      go : (c : ℕ) → 1 ≤ c → (xs : List ℕ) × (take c (arguments t l) ≡ argument t l 1 ∷ xs)
      go zero h = absurd (omega arith)
      go (suc c) h = (take c (argument t l 2 ∷ argument t l 3 ∷ argument t l 4 ∷ []), refl)

  elements_more : 3 ≤ count_at t l → (xs : List ℕ) × (elements t l ≡ argument t l 1 ∷ argument t l 2 ∷ argument t l 3 ∷ xs)
  unfolding elements arguments
  elements_more h = go (count_at t l) h
    where
      go : (c : ℕ) → 3 ≤ c → (xs : List ℕ) × (take c (arguments t l) ≡ argument t l 1 ∷ argument t l 2 ∷ argument t l 3 ∷ xs)
      go zero h = absurd (omega arith)
      go (suc zero) h = absurd (omega arith)
      go (suc (suc zero)) h = absurd (omega arith)
      go (suc (suc (suc c))) h = (take c (argument t l 4 ∷ []), refl)

-- ---- what honest r takes a list from s for, and what it has found then
pub data Understood (t : Table) (r s : ℕ) : List ℕ → Message → Type 0 where
  as_third : {n : ℕ} → term_in t n ≡ nonce r s → Understood t r s (n ∷ []) third
  as_first : {x y : ℕ} → term_in t y ≡ datum s → Understood t r s (x ∷ y ∷ []) (first x)
  as_second : {x y z : ℕ} {zs : List ℕ} → term_in t x ≡ nonce r s → term_in t z ≡ datum s → Understood t r s (x ∷ y ∷ z ∷ zs) (second y)
  as_none : {xs : List ℕ} → Understood t r s xs none

module _ (t : Table) (sh : Shaped t) (l : ℕ) (uses : Used t l) (list_type_is : type_at t l ≡ list_type) where
  pub element_used : (x : ℕ) → Memᴰ x (elements t l) → Used t x
  element_used x i = let k = sh.list_elements l uses list_type_is x i in record { low = k.0; high = omega (arith, k.1, uses.high) }

  module _ (r s : ℕ) where
    one : elements t l ≡ argument t l 1 ∷ [] → Understood t r s (elements t l) (read_one t r s l)
    unfolding read_one
    one q = rw q (by_test (Understood t r s (argument t l 1 ∷ [])) (is_nonce_of t r s (argument t l 1))
        (λ p. as_third (nonce_is t (argument t l 1) r s (element_used (argument t l 1) (rw q (Memᴰ.head refl))) p)) as_none)

    two : elements t l ≡ argument t l 1 ∷ argument t l 2 ∷ [] → Understood t r s (elements t l) (read_two t r s l)
    unfolding read_two
    two q = rw q (by_test (Understood t r s (argument t l 1 ∷ argument t l 2 ∷ [])) (is_datum_of t s (argument t l 2))
        (λ p. as_first (datum_is t (argument t l 2) s (element_used (argument t l 2) (rw q (Memᴰ.tail (Memᴰ.head refl)))) p)) as_none)

    more : (xs : List ℕ) → elements t l ≡ argument t l 1 ∷ argument t l 2 ∷ argument t l 3 ∷ xs → Understood t r s (elements t l) (read_more t r s l)
    unfolding read_more
    more xs q = rw q (by_test (Understood t r s (argument t l 1 ∷ argument t l 2 ∷ argument t l 3 ∷ xs))
        (is_nonce_of t r s (argument t l 1) and is_datum_of t s (argument t l 3))
        (λ p. as_second
        (nonce_is t (argument t l 1) r s (element_used (argument t l 1) (rw q (Memᴰ.head refl))) (and_left (is_nonce_of t r s (argument t l 1)) _ p))
        (datum_is t (argument t l 3) s (element_used (argument t l 3) (rw q (Memᴰ.tail (Memᴰ.tail (Memᴰ.head refl)))))
        (and_right (is_nonce_of t r s (argument t l 1)) _ p))) as_none)

    pub understood : Understood t r s (elements t l) (read_list t r s l)
    unfolding read_list
    understood =
        by_test (Understood t r s (elements t l)) (eqb (count_at t l) 1) (λ p. one (elements_one t l (eqb-true (count_at t l) 1 p)))
        (by_test (Understood t r s (elements t l)) (eqb (count_at t l) 2) (λ p. two (elements_two t l (eqb-true (count_at t l) 2 p)))
        (by_test (Understood t r s (elements t l)) (leb 3 (count_at t l) and leb (count_at t l) 4)
        (λ p. let k = elements_more t l (leb-true 3 (count_at t l) (and_left (leb 3 (count_at t l)) _ p)) in more k.0 k.1) as_none))

-- ---- knower 0's handle h, delivered to r, whose list under its key has the elements xs: what r is granted of it
pub record Delivered (t : Table) (r h : ℕ) (xs : List ℕ) : Type 0 where
  pub beside : List ℕ
  pub took : Carries t h beside r xs
  pub real : (x : ℕ) → Memᴰ x (opened t (entry_of t 0 h)) → 1 ≤ x
  pub learns : {t' : Table} → Grows t t' → (x : ℕ) → Memᴰ x (opened t (entry_of t 0 h)) → Learns t' r xs x

-- a list l that is used, with a ciphertext under r's key in front
module _ (t : Table) (sh : Shaped t) (r l : ℕ) (uses : Used t l) (list_type_is : type_at t l ≡ list_type) (for : is_for t r (sealed_in t l) ≡ true) where
  others : (xs : List ℕ) × (elements t l ≡ sealed_in t l ∷ xs)
  others = elements_some t l (sh.list_count l uses list_type_is).0

  sealed_used : Used t (sealed_in t l)
  sealed_used = element_used t sh l uses list_type_is (sealed_in t l) (rw others.1 (Memᴰ.head refl))

  is_sealed : (type_at t (sealed_in t l) ≡ ciphertext_type) × (argument t (sealed_in t l) 1 ≡ public_key_of r)
  unfolding is_for
  is_sealed =
      let key = eqb (argument t (sealed_in t l) 1) (public_key_of r) in
      (eqb-true _ _ (and_left (is_ciphertext t (sealed_in t l)) key for), eqb-true _ _ (and_right (is_ciphertext t (sealed_in t l)) key for))

  pub plain_used : Used t (plain_in t l)
  plain_used =
      let k = sh.cipher_list (sealed_in t l) sealed_used is_sealed.0 in
      record { low = k.0; high = omega (arith, k.1, sealed_used.high) }

  pub plain_list : type_at t (plain_in t l) ≡ list_type
  plain_list = (sh.cipher_list (sealed_in t l) sealed_used is_sealed.0).2

  outer_is : term_in t l ≡ list (sealed_in t l ∷ others.0)
  outer_is = list_term t l uses list_type_is ∙ ap list others.1

  sealed_is : term_in t (sealed_in t l) ≡ ciphertext (public_key_of r) (plain_in t l)
  sealed_is = rw is_sealed.1 at (ciphertext_term t (sealed_in t l) sealed_used is_sealed.0)

  plain_is : term_in t (plain_in t l) ≡ list (elements t (plain_in t l))
  plain_is = list_term t (plain_in t l) plain_used plain_list

  opened_each {ℓ} : (P : ℕ → Type ℓ) → P l → P (sealed_in t l) → P (plain_in t l) → ((x : ℕ) → Memᴰ x (elements t (plain_in t l)) → P x)
      → (x : ℕ) → Memᴰ x (opened t l) → P x
  unfolding opened
  opened_each P a b c f = each_cons P a (each_cons P b (each_cons P c (λ x i. f x (take_mem 3 (elements t (plain_in t l)) x i))))

  opened_real : (x : ℕ) → Memᴰ x (opened t l) → 1 ≤ x
  opened_real = opened_each (λ x. 1 ≤ x) uses.low sealed_used.low plain_used.low
      (λ x i. (element_used t sh (plain_in t l) plain_used plain_list x i).low)

  opened_learns : {t' : Table} → Grows t t' → (x : ℕ) → Memᴰ x (opened t l) → Learns t' r (elements t (plain_in t l)) x
  opened_learns {t'} g = opened_each (Learns t' r (elements t (plain_in t l)))
      (lists _ (term_keeps g l outer_is refl)) (seals _ _ (term_keeps g (sealed_in t l) sealed_is refl))
      (lists _ (term_keeps g (plain_in t l) plain_is refl)) (λ x i. reads i)

  pub delivered : (h : ℕ) → entry_of t 0 h ≡ l → Delivered t r h (elements t (plain_in t l))
  delivered h q = record {
    beside = others.0;
    took = record { sealed = sealed_in t l; inner = plain_in t l; names = rw q outer_is; under = sealed_is; holds = plain_is };
    real = rw q opened_real;
    learns = λ g. rw q (opened_learns g);
  }
