-- What an honest participant does with a message whose entries are known: it is taken for what its elements are, and answered where
-- there is room, since a nonce is short and so is every entry of the answer. Assumes nothing.
use Rattle.std.specs.Prelude.{if◌then◌else◌}
use Prim.Native.Nat.{ℕ, zero, suc, ◌+◌, ◌≤◌, ◌<◌}
use native.Mathlib.Omega.{arith}
use mathlib.Core.Path.{◌≡◌, refl, sym, ap, ◌∙◌}
use mathlib.Core.Logic.{◌≢◌}
use mathlib.Core.Bool.{Bool, true, false, not}
use mathlib.Core.List.{List, [], ◌∷◌, ◌++◌, Memᴰ}
use lib.Dec.{eqb, leb}
use lib.ListN.{length, take, get_or}
use lib.Seq.{length-take-le, get_or-take}
use borrow.Author.Tests.{leb-true, le-leb, eq-eqb, ne_eqb}
use Rattle.rules.specs.Choice.{every, sum_of}
use Rattle.rules.specs.Table.{Table, participants, capacity, used, type_at, count_at, argument, arguments, length_at, is_participant, honest}
use Rattle.rules.specs.Terms.{datum, nonce, list, list_type, ciphertext_type, elements, longest, datum_length, nonce_length, list_length, ciphertext_length, public_key_of, find_datum, find_list}
use Rattle.rules.specs.Handles.{entry_of, holds_handle}
use Rattle.rules.specs.WellFormed.{well_formed}
use Rattle.rules.specs.Outcome.{accepted, is_short, need_room}
use Rattle.rules.specs.Steps.{may_act, unless_found, sealed_lengths, named_length, named_lengths, send_named, start, Message, first, second, third, read_one, read_two, read_more, read_list, is_for, sealed_in, plain_in, read_message, opened, answer_first, alone_length, answer_second, answer_message, deliver_list, deliver}
use Rattle.rules.specs.Machine.{Start, Deliver, act, step}
use Rattle.rules.specs.Handshake.{term_in, Carries}
use Rattle.rules.proofs.Logic.{and_left, and_right, both, every_from, each_none, each_cons, each_append, take_mem}
use Rattle.rules.proofs.Shaped.{Used, Person, Shaped}
use Rattle.rules.proofs.Shaping.{shaped}
use Rattle.rules.proofs.Reading.{clash, list_words, nonce_words, ciphertext_words, term_used, is_datum_lem, is_nonce_lem}
use Rattle.rules.proofs.Needs.{need_goes, room_goes, unless_few, named_count, alone_count}
use Rattle.rules.proofs.Sending.{Real, Posted, Named, named_sent, alone_sent}

-- ---- the elements of a list entry are its arguments
argument_at : (t : Table) (e i : ℕ) → i < 4 → get_or (arguments t e) i 0 ≡ argument t e (1 + i)
unfolding arguments
argument_at t e zero h = refl
argument_at t e (suc zero) h = refl
argument_at t e (suc (suc zero)) h = refl
argument_at t e (suc (suc (suc zero))) h = refl
argument_at t e (suc (suc (suc (suc i)))) h = absurd (omega arith)

module _ (t : Table) (sh : Shaped t) (e : ℕ) (xs : List ℕ) (is : term_in t e ≡ list xs) where
  uses : Used t e
  uses = term_used t e is (λ q. clash (cc))

  list_type_is : type_at t e ≡ list_type
  list_type_is = (list_words t e is).0

  count_few : count_at t e ≤ length (arguments t e)
  unfolding arguments
  count_few = (sh.list_count e uses list_type_is).1

  pub count_is : count_at t e ≡ length xs
  unfolding elements
  count_is = sym (length-take-le (count_at t e) (arguments t e) count_few) ∙ ap (λ (ys : List ℕ). length ys) (list_words t e is).1

  pub element_is : (i : ℕ) → i < length xs → argument t e (1 + i) ≡ get_or xs i 0
  unfolding elements arguments
  element_is i h =
      sym (argument_at t e i (omega (arith, count_few, count_is)))
      ∙ sym (get_or-take (count_at t e) (arguments t e) i 0 (omega (arith, count_is)))
      ∙ ap (λ (ys : List ℕ). get_or ys i 0) (list_words t e is).1

-- ---- who may act
pub honest_person : (t : Table) (p : ℕ) → honest t p ≡ true → Person t p
unfolding honest is_participant
honest_person t p h =
    let q = and_left (is_participant t p) _ h in
    let low = leb-true 1 p (and_left (leb 1 p) _ q) in
    let high = leb-true p (participants t) (and_left (leb p (participants t)) _ (and_right (leb 1 p) _ q)) in
    record { low = low; high = high }

pub may_act_lem : (t : Table) (p q : ℕ) → honest t p ≡ true → honest t q ≡ true → p ≢ q → may_act t p q ≡ true
unfolding may_act honest
may_act_lem t p q h i n =
    let other : not (eqb p q) ≡ true = rw (ne_eqb p q n) refl in
    both (and_left (is_participant t p) _ h) (both (and_left (is_participant t q) _ i) (both other h))

-- ---- every entry of an answer is short
abbrev Short : ℕ → Type 0
Short x = x ≤ longest

all_short : (lengths : List ℕ) → ((x : ℕ) → Memᴰ x lengths → Short x) → every is_short lengths ≡ true
unfolding is_short
all_short lengths h = every_from is_short lengths (λ x i. le-leb x longest (h x i))

unless_short : (found l : ℕ) → Short l → (x : ℕ) → Memᴰ x (unless_found found l) → Short x
unfolding unless_found
unless_short found l h = go (eqb found 0)
  where
    go : (b : Bool) → (x : ℕ) → Memᴰ x (if b then l ∷ [] else []) → Short x
    go true = each_cons Short h (each_none Short)
    go false = each_none Short

sealed_short : (l : ℕ) → l ≤ 100 → (x : ℕ) → Memᴰ x (sealed_lengths l) → Short x
unfolding sealed_lengths ciphertext_length list_length longest
sealed_short l h = each_cons Short (omega arith) (each_cons Short (omega arith) (each_none Short))

named_short : (t : Table) (p : ℕ) (repeated : List ℕ) → sum_of (length_at t) repeated ≤ 8 → every is_short (named_lengths t p repeated) ≡ true
unfolding named_lengths named_length list_length nonce_length datum_length longest
named_short t p repeated h =
    all_short (named_lengths t p repeated)
    (each_cons Short (omega arith)
    (each_append Short (unless_found (find_datum t p) datum_length) (unless_short (find_datum t p) datum_length (omega arith))
    (each_cons Short (omega arith) (sealed_short (named_length t repeated) (omega arith)))))

alone_short : (found l : ℕ) → l ≤ 100 → every is_short (unless_found found l ++ sealed_lengths l) ≡ true
unfolding longest
alone_short found l h =
    all_short (unless_found found l ++ sealed_lengths l)
    (each_append Short (unless_found found l) (unless_short found l (omega arith)) (sealed_short l h))

-- ---- a message arrives
module _ (t : Table) (formed : well_formed t ≡ true) (h r s : ℕ) (others xs : List ℕ) (c : Carries t h others r xs) where
  sealed_is : sealed_in t (entry_of t 0 h) ≡ c.sealed
  sealed_is = element_is t (shaped t formed) (entry_of t 0 h) (c.sealed ∷ others) c.names 0 (omega arith)

  sealed_words : (type_at t c.sealed ≡ ciphertext_type) × (argument t c.sealed 1 ≡ public_key_of r) × (argument t c.sealed 2 ≡ c.inner)
  sealed_words = ciphertext_words t c.sealed c.under

  plain_is : plain_in t (entry_of t 0 h) ≡ c.inner
  plain_is = rw sealed_is sealed_words.2

  message_is : read_message t r s (entry_of t 0 h) ≡ read_list t r s c.inner
  unfolding read_message is_for
  message_is =
      rw (
        plain_is,
        sealed_is,
        eq-eqb (type_at t c.sealed) ciphertext_type sealed_words.0,
        eq-eqb (argument t c.sealed 1) (public_key_of r) sealed_words.1,
      ) refl

  outer_used : Used t (entry_of t 0 h)
  outer_used = term_used t (entry_of t 0 h) c.names (λ q. clash (cc))

  found : holds_handle t 0 h ≡ true
  unfolding holds_handle
  found = rw (ne_eqb (entry_of t 0 h) 0 (λ z. omega (arith, outer_used.low))) refl

  plain_used : Used t c.inner
  plain_used = term_used t c.inner c.holds (λ q. clash (cc))

  elements_real : (x : ℕ) → Memᴰ x (take 3 (elements t (plain_in t (entry_of t 0 h)))) → 1 ≤ x
  elements_real =
      let list_type_is = (list_words t c.inner c.holds).0 in
      rw plain_is (λ x i. ((shaped t formed).list_elements c.inner plain_used list_type_is x (take_mem 3 (elements t c.inner) x i)).0)

  -- what the receiver is granted are entries
  pub opened_real : (x : ℕ) → Memᴰ x (opened t (entry_of t 0 h)) → 1 ≤ x
  unfolding opened
  opened_real =
      each_cons Real outer_used.low
      (each_cons Real (rw sealed_is (term_used t c.sealed c.under (λ q. clash (cc))).low)
      (each_cons Real (rw plain_is plain_used.low) elements_real))

  -- so it is answered by what it is read as
  pub delivered : may_act t r s ≡ true → step (Deliver s r h) t ≡ answer_message t r s (entry_of t 0 h) (read_list t r s c.inner)
  unfolding step act deliver deliver_list
  delivered may =
      need_goes 1 t _ formed ∙ need_goes 3 t _ may ∙ need_goes 5 t _ found
      ∙ need_goes 6 t _ (eq-eqb (type_at t (entry_of t 0 h)) list_type (list_words t (entry_of t 0 h) c.names).0)
      ∙ ap (λ (m : Message). answer_message t r s (entry_of t 0 h) m) message_is

-- ---- how its list is read
module _ (t : Table) (sh : Shaped t) (r s e : ℕ) where
  read_first : (x y : ℕ) → term_in t e ≡ list (x ∷ y ∷ []) → term_in t y ≡ datum s → read_list t r s e ≡ first x
  unfolding read_list read_two
  read_first x y q d =
      rw (
        count_is t sh e (x ∷ y ∷ []) q,
        element_is t sh e (x ∷ y ∷ []) q 1 (omega arith),
        is_datum_lem t y d,
        element_is t sh e (x ∷ y ∷ []) q 0 (omega arith),
      ) refl

  read_second : (x y z : ℕ) → term_in t e ≡ list (x ∷ y ∷ z ∷ []) → term_in t x ≡ nonce r s → term_in t z ≡ datum s → read_list t r s e ≡ second y
  unfolding read_list read_more
  read_second x y z q n d =
      rw (
        count_is t sh e (x ∷ y ∷ z ∷ []) q,
        element_is t sh e (x ∷ y ∷ z ∷ []) q 0 (omega arith),
        is_nonce_lem t x n,
        element_is t sh e (x ∷ y ∷ z ∷ []) q 2 (omega arith),
        is_datum_lem t z d,
        element_is t sh e (x ∷ y ∷ z ∷ []) q 1 (omega arith),
      ) refl

  read_third : (x : ℕ) → term_in t e ≡ list (x ∷ []) → term_in t x ≡ nonce r s → read_list t r s e ≡ third
  unfolding read_list read_one
  read_third x q n =
      rw (count_is t sh e (x ∷ []) q, element_is t sh e (x ∷ []) q 0 (omega arith), is_nonce_lem t x n) refl

-- ---- the four steps of an honest run, each on any well-formed table
nonce_short : (t : Table) → Shaped t → (x a b : ℕ) → term_in t x ≡ nonce a b → length_at t x ≡ 8
unfolding nonce_length
nonce_short t sh x a b q = sh.nonce_length_lem x (term_used t x q (λ z. clash (cc))) (nonce_words t x q).0

module _ (t : Table) (formed : well_formed t ≡ true) (r s : ℕ) (acts : honest t r ≡ true) (peer : honest t s ≡ true) (apart : r ≢ s) where
  may : may_act t r s ≡ true
  may = may_act_lem t r s acts peer apart

  -- room for five entries is enough for a nonce and a name
  named_goes : (known repeated : List ℕ) → ((x : ℕ) → Memᴰ x known → 1 ≤ x) → length repeated ≤ 2 → sum_of (length_at t) repeated ≤ 8
      → used t + 5 ≤ capacity t → Named t r s known repeated (need_room t (named_lengths t r repeated) (send_named t r s known repeated))
  named_goes known repeated real few low room =
      let n = named_count t r repeated in
      let f = unless_few (find_datum t r) datum_length in
      rw (room_goes t (named_lengths t r repeated) (send_named t r s known repeated) (named_short t r repeated low) (omega arith))
      (named_sent t (shaped t formed) r s (honest_person t r acts) known repeated real few (omega arith))

  pub started : used t + 5 ≤ capacity t → Named t r s [] [] (step (Start r s) t)
  unfolding step act start sum_of
  started room =
      rw (need_goes 1 t (act (Start r s) t) formed, need_goes 3 t _ may)
      (named_goes [] [] (each_none Real) (omega arith) (omega arith) room)

  pub answered : (h x y a b : ℕ) (others : List ℕ) → Carries t h others r (x ∷ y ∷ []) → term_in t x ≡ nonce a b → term_in t y ≡ datum s
      → used t + 5 ≤ capacity t → Named t r s (opened t (entry_of t 0 h)) (x ∷ []) (step (Deliver s r h) t)
  unfolding answer_message answer_first sum_of
  answered h x y a b others c n d room =
      rw (delivered t formed h r s others (x ∷ y ∷ []) c may, read_first t (shaped t formed) r s c.inner x y c.holds d)
      (named_goes (opened t (entry_of t 0 h)) (x ∷ []) (opened_real t formed h r s others (x ∷ y ∷ []) c) (omega arith)
      (omega (arith, nonce_short t (shaped t formed) x a b n)) room)

  -- room for three is enough for a nonce alone
  pub replied : (h x y z a b : ℕ) (others : List ℕ) → Carries t h others r (x ∷ y ∷ z ∷ []) → term_in t x ≡ nonce r s → term_in t y ≡ nonce a b
      → term_in t z ≡ datum s → used t + 3 ≤ capacity t → Posted t r s (opened t (entry_of t 0 h)) (y ∷ []) (step (Deliver s r h) t)
  unfolding answer_message answer_second alone_length list_length
  replied h x y z a b others c m n d room =
      let l = 2 + length_at t y in
      let f = find_list t (y ∷ []) in
      let k = alone_count f l in
      let few = unless_few f l in
      rw (
        delivered t formed h r s others (x ∷ y ∷ z ∷ []) c may,
        read_second t (shaped t formed) r s c.inner x y z c.holds m d,
        room_goes t (unless_found f l ++ sealed_lengths l) _ (alone_short f l (omega (arith, nonce_short t (shaped t formed) y a b n))) (omega arith),
      )
      (alone_sent t (shaped t formed) r s (honest_person t r acts) (opened t (entry_of t 0 h))
      (opened_real t formed h r s others (x ∷ y ∷ z ∷ []) c) y l (omega arith))

  pub agreed : (h x : ℕ) (others : List ℕ) → Carries t h others r (x ∷ []) → term_in t x ≡ nonce r s → (step (Deliver s r h) t).answer ≡ accepted r s
  unfolding answer_message
  agreed h x others c n =
      rw (delivered t formed h r s others (x ∷ []) c may, read_third t (shaped t formed) r s c.inner x c.holds n) refl
