-- Laws of the definitions that the reader's and the writer's contracts are said in. Assumes nothing.
use Prim.Native.Nat.{ℕ, zero, suc, ◌+◌, ◌*◌, ◌/◌, ◌≤◌, ◌<◌}
use native.Mathlib.Omega.{arith}
use native.Mathlib.Numerals.{add-one}
use native.Mathlib.Nat.{zero-add}
use mathlib.Core.Path.{◌≡◌, refl, sym, ap, ◌∙◌}
use mathlib.Core.Bool.{true, false}
use mathlib.Core.List.{List, [], ◌∷◌, ◌++◌}
use lib.ListN.{length, get_or, take, set}
use lib.Seq.{sets, sets-eq, take-suc, length-take-le}
use borrow.Author.Tests.{le-leb, lt-leb}
use Rattle.rules.specs.Machine.{Record, SetUp, Asks, Start, Deliver, Store, Nonce, MakeList, Project, Encrypt, Decrypt, Parse}
use Rattle.rules.specs.Session.{Reading, found, malformed, ended, body_lengths, is_within, record_of, body_number, read_body, kind_of, values_of, two_bytes, bytes_of, body_length, record_bytes, has_record, write_record, refusal, bytes}
use Rattle.rules.specs.Meaning.{beside_at, asked}
use Rattle.rules.proofs.Stores.{sets_append}
use Rattle.rules.proofs.RoundTrip.{body_found}
use Rattle.rules.specs.declared.Command.{Command}
use Rattle.rules.specs.declared.Command.TheVariants.{SetUp as SetUpᶜ, Start as Startᶜ, Deliver as Deliverᶜ, Store as Storeᶜ, Nonce as Nonceᶜ, List as Listᶜ, Project as Projectᶜ, Encrypt as Encryptᶜ, Decrypt as Decryptᶜ, Parse as Parseᶜ}
use Rattle.beside.specs.Beside.{numbers_beside}
use Rattle.beside.proofs.Asked.{asked_fits}
use Rattle.session.specs.Session.{four_handles, beside_record, beside, handles_beside, command_of, count_of}

-- ---- the code's command, and the rule's record
module _ (k : ℕ) (x : ℕ → ℕ) where
  asks_record : (kind : ℕ) → asked (command_of kind k (x 1) (x 2) (x 3) (x 4)) ≡ record_of kind k x
  unfolding asked beside_at command_of four_handles record_of
  asks_record zero = refl
  asks_record (suc zero) = refl
  asks_record (suc (suc zero)) = refl
  asks_record (suc (suc (suc zero))) = refl
  asks_record (suc (suc (suc (suc zero)))) = refl
  asks_record (suc (suc (suc (suc (suc zero))))) = refl
  asks_record (suc (suc (suc (suc (suc (suc zero)))))) = refl
  asks_record (suc (suc (suc (suc (suc (suc (suc zero))))))) = refl
  asks_record (suc (suc (suc (suc (suc (suc (suc (suc zero)))))))) = refl
  asks_record (suc (suc (suc (suc (suc (suc (suc (suc (suc n))))))))) = refl

  beside_record_lem : (kind : ℕ) → handles_beside (command_of kind k (x 1) (x 2) (x 3) (x 4)) ≡ beside_record (record_of kind k x)
  unfolding beside_record handles_beside command_of record_of
  beside_record_lem zero = refl
  beside_record_lem (suc zero) = refl
  beside_record_lem (suc (suc zero)) = refl
  beside_record_lem (suc (suc (suc zero))) = refl
  beside_record_lem (suc (suc (suc (suc zero)))) = refl
  beside_record_lem (suc (suc (suc (suc (suc zero))))) = refl
  beside_record_lem (suc (suc (suc (suc (suc (suc zero)))))) = refl
  beside_record_lem (suc (suc (suc (suc (suc (suc (suc zero))))))) = refl
  beside_record_lem (suc (suc (suc (suc (suc (suc (suc (suc zero)))))))) = refl
  beside_record_lem (suc (suc (suc (suc (suc (suc (suc (suc (suc n))))))))) = refl

-- ---- a body
module _ (file : List ℕ) (b l : ℕ) where
  pub body_read : {kind x y z w : ℕ} {c : Command} → b + l ≤ length file → is_within (body_lengths (get_or file b 0)) l ≡ true
      → kind ≡ get_or file b 0
      → x ≡ body_number file b (l / 2) 1 → y ≡ body_number file b (l / 2) 2 → z ≡ body_number file b (l / 2) 3 → w ≡ body_number file b (l / 2) 4
      → c ≡ command_of kind (l / 2) x y z w → (found (asked c) (b + l) ≡ read_body file b l) × (handles_beside c ≡ beside (read_body file b l))
  unfolding beside
  body_read h m p q₁ q₂ q₃ q₄ r =
      let n = body_number file b (l / 2) in
      rw (body_found file b l h m, r, p, q₁, q₂, q₃, q₄)
      (ap (λ (a : Record). found a (b + l)) (asks_record (l / 2) n (get_or file b 0)), beside_record_lem (l / 2) n (get_or file b 0))

-- ---- the four handles
pub four_long : (r : Reading) → length (beside r) ≡ 4
unfolding beside beside_record four_handles
four_long (found (SetUp n m c) next) = refl
four_long (found (Asks (Start u v)) next) = refl
four_long (found (Asks (Deliver s r h)) next) = refl
four_long (found (Asks (Store d)) next) = refl
four_long (found (Asks Nonce) next) = refl
four_long (found (Asks (MakeList k a b c d)) next) = refl
four_long (found (Asks (Project h i)) next) = refl
four_long (found (Asks (Encrypt k l)) next) = refl
four_long (found (Asks (Decrypt k c)) next) = refl
four_long (found (Asks (Parse h)) next) = refl
four_long malformed = refl
four_long ended = refl

-- a command that has a record has no more than four numbers
pub count_small : (c : Command) → has_record (asked c) ≡ true → count_of c ≤ 4
unfolding has_record asked count_of
count_small (SetUpᶜ n m c) e = omega arith
count_small (Startᶜ u v) e = omega arith
count_small (Deliverᶜ s r h) e = omega arith
count_small (Storeᶜ d) e = omega arith
count_small Nonceᶜ e = omega arith
count_small (Listᶜ k hs) e = asked_fits k _ e
count_small (Projectᶜ h i) e = omega arith
count_small (Encryptᶜ k l) e = omega arith
count_small (Decryptᶜ k c) e = omega arith
count_small (Parseᶜ h) e = omega arith

pub count_long : (c : Command) → has_record (asked c) ≡ true → length (values_of (asked c)) ≡ count_of c
unfolding has_record asked values_of count_of
count_long (SetUpᶜ n m c) e = refl
count_long (Startᶜ u v) e = refl
count_long (Deliverᶜ s r h) e = refl
count_long (Storeᶜ d) e = refl
count_long Nonceᶜ e = refl
count_long (Listᶜ k hs) e =
    length-take-le k (numbers_beside hs) (asked_fits k _ e)
count_long (Projectᶜ h i) e = refl
count_long (Encryptᶜ k l) e = refl
count_long (Decryptᶜ k c) e = refl
count_long (Parseᶜ h) e = refl

-- the numbers of such a command are as many as are counted
pub values_long : (c : Command) (m n : ℕ) (vs : List ℕ) → has_record (asked c) ≡ true → m ≡ count_of c → n ≡ m → take (count_of c) vs ≡ values_of (asked c)
    → (n ≤ 4) × (length (take n vs) ≡ n) × (take n vs ≡ values_of (asked c))
values_long c m n vs h p q v =
    let e : n ≡ count_of c = q ∙ p in
    rw e (count_small c h, ap length v ∙ count_long c h, v)

-- ---- bytes written one after another
bytes_append : (xs ys : List ℕ) → bytes_of xs ++ bytes_of ys ≡ bytes_of (xs ++ ys)
unfolding bytes_of two_bytes
bytes_append [] ys = refl
bytes_append (x ∷ xs) ys = rw (bytes_append xs ys)

bytes_long : (xs : List ℕ) → length (bytes_of xs) ≡ 2 * length xs
unfolding bytes_of two_bytes
bytes_long [] = refl
bytes_long (x ∷ xs) = omega (arith, bytes_long xs)

-- one number more
pub put_more : (w : List ℕ) (i : ℕ) (a : List ℕ) {b c : List ℕ} → i < length w → b ≡ sets a 3 (bytes_of (take i w))
    → c ≡ sets b (3 + 2 * i) (two_bytes (get_or w i 0)) → c ≡ sets a 3 (bytes_of (take (i + 1) w))
unfolding bytes_of two_bytes
put_more w i a h p q =
    let l : 3 + 2 * i ≡ 3 + length (bytes_of (take i w)) = omega (arith, bytes_long (take i w), length-take-le i w (omega arith)) in
    q ∙ rw (p, l, add-one, take-suc w i 0 h, ← bytes_append (take i w) (get_or w i 0 ∷ [])) (sets_append a 3 (bytes_of (take i w)) (two_bytes (get_or w i 0)))

-- ---- a record written
module _ (r : Record) (out : List ℕ) where
  pub write_none : has_record r ≡ false → (refusal 11 ≡ (write_record r out).written) × (out ≡ (write_record r out).output)
  unfolding write_record
  write_none e = rw e (refl, refl)

  module _ (n : ℕ) (e : has_record r ≡ true) (t : length (values_of r) ≡ n) where
    record_long : length (record_bytes r) ≡ 3 + 2 * n
    unfolding record_bytes two_bytes
    record_long = omega (arith, t, bytes_long (values_of r))

    pub write_short : length out < 3 + 2 * n → (refusal 12 ≡ (write_record r out).written) × (out ≡ (write_record r out).output)
    unfolding write_record
    write_short l = rw (e, record_long, lt-leb _ _ l) (refl, refl)

    record_put : {kind : ℕ} {vs a new : List ℕ} → kind ≡ kind_of r → vs ≡ values_of r → a ≡ sets out 0 (two_bytes (1 + 2 * n))
        → new ≡ sets (set a 2 kind) 3 (bytes_of vs) → new ≡ sets out 0 (record_bytes r)
    unfolding record_bytes body_length two_bytes
    record_put k v p q = q ∙ rw (p, k, v, t) refl

    pub write_all : {kind : ℕ} {vs a new : List ℕ} → 3 + 2 * n ≤ length out → kind ≡ kind_of r → vs ≡ values_of r
        → a ≡ sets out 0 (two_bytes (1 + 2 * n)) → new ≡ sets (set a 2 kind) 3 (bytes_of vs)
        → (bytes (3 + 2 * n) ≡ (write_record r out).written) × (new ≡ (write_record r out).output)
    unfolding write_record
    write_all l k v p q =
        let f : length (record_bytes r) ≤ length out = omega (arith, record_long) in
        let f' : 0 + length (record_bytes r) ≤ length out = omega arith in
        rw (e, le-leb (length (record_bytes r)) (length out) f)
        (ap bytes (sym record_long), record_put k v p q ∙ sets-eq (record_bytes r) out 0 f' ∙ rw zero-add refl)
