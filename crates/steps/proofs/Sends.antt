-- What is made and sent, and the room for it: each way that the rules go, in the facts that the code has there. Assumes nothing.
use Rattle.std.specs.Prelude.{Result, Ok, Err}
use Rattle.std.specs.Result.{IsErrAnd}
use Rattle.std.proofs.lemmas.Result.{err_from_is_err_and}
use Prim.Native.Nat.{ℕ, ◌+◌, ◌-◌, ◌≤◌}
use native.Mathlib.Omega.{arith}
use native.Mathlib.Decide.{ℕ_discrete, dec_le}
use mathlib.Core.Path.{◌≡◌, refl, sym, ap, ◌∙◌}
use mathlib.Core.Bool.{Bool, true, false}
use mathlib.Core.List.{List, [], ◌∷◌, ◌++◌, append-nil}
use lib.Dec.{leb}
use lib.ListN.{length}
use borrow.Author.Tests.{le-leb, lt-leb, eq-eqb, ne_eqb}
use Rattle.rules.specs.Choice.{every}
use Rattle.rules.specs.Table.{Table, used, capacity, length_at, handle}
use Rattle.rules.specs.Terms.{Term, datum, nonce, list, ciphertext, longest, datum_length, nonce_length, list_length, ciphertext_length, public_key_of, numbers_of, new_entry, add_entry, create, find_datum, find_list}
use Rattle.rules.specs.Handles.{grant, grant_each}
use Rattle.rules.specs.Outcome.{Outcome, gives, refused, sent, need, is_short, need_room}
use Rattle.rules.specs.Steps.{make, make_unless, unless_found, sealed_lengths, send, named_length, named_lengths, send_named, alone_length, answer_second}
use Rattle.rules.specs.Meaning.{said, or_nothing}
use Rattle.rules.specs.declared.Refusal.{Refusal}
use Rattle.rules.specs.declared.Reply.{Reply}
use Rattle.rules.proofs.Needs.{unless_none, unless_some, named_count, alone_count}
use Rattle.steps.specs.Sending.{made_at, add_unless, refusal_for}
use Rattle.steps.proofs.Knowing.{grant_append}

-- ---- room
-- what leaves with a refusal
pub said_refused : (z : Result Reply Refusal) (e : Refusal) → IsErrAnd z (λ y. y ≡ e) → said z ≡ refused e.0
unfolding said
said_refused z e h = let y = err_from_is_err_and z h in rw (y.1, y.2) refl

refused_some : (t : Table) (rest : Outcome) (a b : Bool) (e : Refusal) → Err e ≡ refusal_for a b
    → need a 9 t (need b 10 t rest) ≡ gives (refused e.0) t
unfolding need
refused_some t rest false b e q = let is : e ≡ record { 0 = 9 } = cc in rw is refl
refused_some t rest true false e q = let is : e ≡ record { 0 = 10 } = cc in rw is refl
refused_some t rest true true e q = cc

refused_none : (t : Table) (rest : Outcome) (a b : Bool) → Ok tt ≡ refusal_for a b → need a 9 t (need b 10 t rest) ≡ rest
unfolding need
refused_none t rest false b q = cc
refused_none t rest true false q = cc
refused_none t rest true true q = refl

-- how many entries a search leaves to be made
search_asks : (f l m : ℕ) (found : List ℕ) → found ≡ or_nothing f → m + length found ≡ 1 → length (unless_found f l) ≡ m
unfolding or_nothing
search_asks f l m found p q = go (ℕ_discrete f 0)
  where
    go : Dec (f ≡ 0) → length (unless_found f l) ≡ m
    go (yes z) = let e : length found ≡ 0 = ap length p ∙ rw (eq-eqb f 0 z) refl in omega (arith, unless_none f l z)
    go (no z) = let e : length found ≡ 1 = ap length p ∙ rw (ne_eqb f 0 z) refl in omega (arith, unless_some f l z)

-- ---- room for a message with a name
named_short : (t : Table) (p : ℕ) (repeated : List ℕ)
    → every is_short (named_lengths t p repeated) ≡ every is_short (named_length t repeated ∷ sealed_lengths (named_length t repeated))
unfolding named_lengths unless_found every is_short nonce_length datum_length longest
named_short t p repeated = go (ℕ_discrete (find_datum t p) 0)
  where
    go : Dec (find_datum t p ≡ 0)
        → every is_short (named_lengths t p repeated) ≡ every is_short (named_length t repeated ∷ sealed_lengths (named_length t repeated))
    go (yes z) = rw (eq-eqb (find_datum t p) 0 z) refl
    go (no z) = rw (ne_eqb (find_datum t p) 0 z) refl

module _ (t : Table) (p l m : ℕ) (repeated found : List ℕ) (rest : Outcome) (isLength : l ≡ named_length t repeated)
    (is_found : found ≡ or_nothing (find_datum t p)) (asks : m + length found ≡ 1) where
  -- the entries that are asked for
  named_many : length (named_lengths t p repeated) ≡ 4 + m
  named_many = named_count t p repeated ∙ ap (λ (k : ℕ). 4 + k) (search_asks (find_datum t p) datum_length m found is_found asks)

  named_asked : refusal_for (every is_short (l ∷ sealed_lengths l)) (leb (4 + m) (capacity t - used t))
      ≡ refusal_for (every is_short (named_lengths t p repeated)) (leb (length (named_lengths t p repeated)) (capacity t - used t))
  named_asked = rw (named_short t p repeated, named_many, ← isLength) refl

  pub named_not : (e : Refusal) → Err e ≡ refusal_for (every is_short (l ∷ sealed_lengths l)) (leb (4 + m) (capacity t - used t))
      → need_room t (named_lengths t p repeated) rest ≡ gives (refused e.0) t
  unfolding need_room
  named_not e z = refused_some t rest _ _ e (z ∙ named_asked)

  pub named_there : Ok tt ≡ refusal_for (every is_short (l ∷ sealed_lengths l)) (leb (4 + m) (capacity t - used t))
      → need_room t (named_lengths t p repeated) rest ≡ rest
  unfolding need_room
  named_there z = refused_none t rest _ _ (z ∙ named_asked)

-- ---- room for a list alone
-- what is sealed short is short
alone_short : (f l : ℕ) → every is_short (unless_found f l ++ sealed_lengths l) ≡ every is_short (l ∷ sealed_lengths l)
unfolding unless_found every is_short sealed_lengths list_length ciphertext_length longest
alone_short f l = go (ℕ_discrete f 0) (dec_le l 4095)
  where
    go : Dec (f ≡ 0) → Dec (l ≤ 4095) → every is_short (unless_found f l ++ sealed_lengths l) ≡ every is_short (l ∷ sealed_lengths l)
    go (yes z) d = rw (eq-eqb f 0 z) refl
    go (no z) (yes h) = rw (ne_eqb f 0 z, le-leb l 4095 h) refl
    go (no z) (no h) = rw (ne_eqb f 0 z, lt-leb l 4095 (omega arith), lt-leb (l + 16) 4095 (omega arith)) refl

-- ---- what is made
-- the entry that was found, or the new one
unless_made : (f : ℕ) (t : Table) (x : Term) (l : ℕ) → add_unless (or_nothing f) t (numbers_of x l) ≡ make_unless f t x l
unfolding add_unless or_nothing make_unless make create
unless_made f t x l = go (ℕ_discrete f 0)
  where
    go : Dec (f ≡ 0) → add_unless (or_nothing f) t (numbers_of x l) ≡ make_unless f t x l
    go (yes z) = rw (eq-eqb f 0 z) refl
    go (no z) = rw (ne_eqb f 0 z) refl

-- ---- what is sent
pub send_goes : (t t₁ t₂ t₃ t₄ t₅ t₆ : Table) (p q inner l c o h : ℕ) (known made ns ms : List ℕ)
    → ns ≡ numbers_of (ciphertext (public_key_of q) inner) (ciphertext_length l) → t₁ ≡ add_entry t ns → c ≡ new_entry t
    → ms ≡ numbers_of (list (c ∷ [])) (2 + (l + 16)) → t₂ ≡ add_entry t₁ ms → o ≡ new_entry t₁
    → t₃ ≡ grant_each t₂ p known → t₄ ≡ grant_each t₃ p made → t₅ ≡ grant_each t₄ p (inner ∷ c ∷ o ∷ []) → t₆ ≡ grant t₅ 0 o
    → h ≡ handle t₆ 0 o → gives (sent p q h) t₆ ≡ send p q (known ++ made) (made_at inner t) l
unfolding send make create ciphertext_length list_length
send_goes t t₁ t₂ t₃ t₄ t₅ t₆ p q inner l c o h known made ns ms a b d e f g i j k m n =
    rw (n, m, k, j, i, g, f, e, d, b, a, grant_append, grant_append) refl

pub named_goes : (t t₁ t₂ t₃ : Table) (p q l n d i : ℕ) (known repeated found ns ms ls : List ℕ) → l ≡ named_length t repeated
    → found ≡ or_nothing (find_datum t p) → ns ≡ numbers_of (nonce p q) nonce_length → t₁ ≡ add_entry t ns → n ≡ new_entry t
    → ms ≡ numbers_of (datum p) datum_length → t₂ ≡ (add_unless found t₁ ms).table → d ≡ (add_unless found t₁ ms).entry
    → ls ≡ numbers_of (list (repeated ++ (n ∷ d ∷ []))) l → t₃ ≡ add_entry t₂ ls → i ≡ new_entry t₂
    → send p q (known ++ (n ∷ d ∷ [])) (made_at i t₃) l ≡ send_named t p q known repeated
unfolding send_named make create
named_goes t t₁ t₂ t₃ p q l n d i known repeated found ns ms ls a b e f g h j k m s v =
    let made : add_unless found t₁ ms ≡ make_unless (find_datum t p) t₁ (datum p) datum_length =
    rw (b, h) (unless_made (find_datum t p) t₁ (datum p) datum_length) in
    rw (v, s, m, j, k, made, g, f, e, a) refl

-- ---- x back, alone
pub alone_length_lem : (t : Table) (x m n : ℕ) → n ≡ length_at t x → m ≡ n → 2 + m ≡ alone_length t x
unfolding alone_length list_length
alone_length_lem t x m n q p = rw (p, q) refl

module _ (t : Table) (r s x l m : ℕ) (known found : List ℕ) (isLength : l ≡ alone_length t x)
    (is_found : found ≡ or_nothing (find_list t (x ∷ []))) (asks : m + length found ≡ 1) where
  -- the new entries by their lengths
  alone : List ℕ
  alone = unless_found (find_list t (x ∷ [])) (alone_length t x) ++ sealed_lengths (alone_length t x)

  alone_many : length alone ≡ 2 + m
  unfolding alone
  alone_many =
      alone_count (find_list t (x ∷ [])) (alone_length t x)
      ∙ ap (λ (k : ℕ). 2 + k) (search_asks (find_list t (x ∷ [])) (alone_length t x) m found is_found asks)

  alone_asked : refusal_for (every is_short (l ∷ sealed_lengths l)) (leb (2 + m) (capacity t - used t))
      ≡ refusal_for (every is_short alone) (leb (length alone) (capacity t - used t))
  unfolding alone
  alone_asked = rw (alone_short (find_list t (x ∷ [])) (alone_length t x), alone_many, ← isLength) refl

  pub second_not : (e : Refusal) → Err e ≡ refusal_for (every is_short (l ∷ sealed_lengths l)) (leb (2 + m) (capacity t - used t))
      → answer_second t r s known x ≡ gives (refused e.0) t
  unfolding answer_second need_room alone
  second_not e q = refused_some t _ _ _ e (q ∙ alone_asked)

  pub second_goes : (i k : ℕ) (t₁ : Table) (ns : List ℕ)
      → (k ≡ l) × (Ok tt ≡ refusal_for (every is_short (l ∷ sealed_lengths l)) (leb (2 + m) (capacity t - used t)))
      → ns ≡ numbers_of (list (x ∷ [])) k → t₁ ≡ (add_unless found t ns).table → i ≡ (add_unless found t ns).entry
      → send r s (known ++ []) (made_at i t₁) k ≡ answer_second t r s known x
  unfolding answer_second need_room alone
  second_goes i k t₁ ns q n p o =
      let made : add_unless found t ns ≡ make_unless (find_list t (x ∷ [])) t (list (x ∷ [])) l =
      rw (is_found, n, q.0) (unless_made (find_list t (x ∷ [])) t (list (x ∷ [])) l) in
      rw (append-nil, p, o, made, q.0, isLength) (sym (refused_none t _ _ _ (q.1 ∙ alone_asked)))
