-- What a request does, as far as the proofs of demand 3 look at it: what knower 0 may get from what it holds, or which step an honest
-- participant made, on which message, and who got what by it. Assumes nothing.
use Prim.Native.Nat.{ℕ}
use native.Mathlib.Omega.{arith}
use mathlib.Core.Path.{◌≡◌}
use mathlib.Core.Logic.{◌≢◌, ◌⊎◌, inl}
use mathlib.Core.Bool.{Bool, true}
use mathlib.Core.List.{List, [], ◌∷◌, Memᴰ}
use Rattle.rules.specs.Table.{Table}
use Rattle.rules.specs.Terms.{datum, nonce, list, ciphertext, secret_key, public_key_of}
use Rattle.rules.specs.Handles.{entry_of}
use Rattle.rules.specs.Outcome.{Outcome, gives, accepted, refused}
use Rattle.rules.specs.Machine.{Request}
use Rattle.rules.specs.Handshake.{term_in, Turn, turn, Carries, Starts, Answers, Replies, Accepts}
use Rattle.rules.proofs.Logic.{first_of}
use Rattle.rules.proofs.Grows.{Grows, grows_refl}
use Rattle.rules.proofs.Holding.{Holds}

-- what the adversary's commands give to knower 0, from what it held
pub data Derived (t t' : Table) (e : ℕ) : Type 0 where
  stored : (d : ℕ) → term_in t' e ≡ datum d → Derived t t' e
  made : term_in t' e ≡ nonce 0 0 → Derived t t' e
  listed : (xs : List ℕ) → term_in t' e ≡ list xs → ((x : ℕ) → Memᴰ x xs → Holds t 0 x) → Derived t t' e
  projected : (l : ℕ) (xs : List ℕ) → Holds t 0 l → term_in t l ≡ list xs → Memᴰ e xs → Derived t t' e
  encrypted : (k l : ℕ) → term_in t' e ≡ ciphertext k l → Holds t 0 l → Derived t t' e
  decrypted : (k c p : ℕ) → Holds t 0 k → term_in t k ≡ secret_key p → Holds t 0 c → term_in t c ≡ ciphertext (public_key_of p) e → Derived t t' e

-- what p gets at a step on a message with the elements xs: those, nonces of its own, names, lists and ciphertexts
pub data Learns (t' : Table) (p : ℕ) (xs : List ℕ) (e : ℕ) : Type 0 where
  reads : Memᴰ e xs → Learns t' p xs e
  makes : (q : ℕ) → term_in t' e ≡ nonce p q → Learns t' p xs e
  names : (d : ℕ) → term_in t' e ≡ datum d → Learns t' p xs e
  lists : (ys : List ℕ) → term_in t' e ≡ list ys → Learns t' p xs e
  seals : (k l : ℕ) → term_in t' e ≡ ciphertext k l → Learns t' p xs e

-- knower k gets nothing
abbrev pub Unhanded : Turn → ℕ → Type 0
Unhanded x k = (e : ℕ) → Holds x.after k e → Holds x.before k e

-- knower 0 gets what handle h names, and nothing else
abbrev pub Hands : Turn → ℕ → Type 0
Hands x h = (e : ℕ) → Holds x.after 0 e → Holds x.before 0 e ⊎ (e ≡ entry_of x.after 0 h)

-- among the participants only p gets something
pub record Tells (x : Turn) (p : ℕ) (xs : List ℕ) : Type 0 where
  pub acting : (e : ℕ) → Holds x.after p e → Holds x.before p e ⊎ Learns x.after p xs e
  pub others : (k : ℕ) → k ≢ 0 → k ≢ p → Unhanded x k

pub data Moves (H : ℕ → Bool) (x : Turn) : Type 0 where
  derives : ((v u : ℕ) → x.answer ≢ accepted v u) → ((k : ℕ) → k ≢ 0 → Unhanded x k)
      → ((e : ℕ) → Holds x.after 0 e → Holds x.before 0 e ⊎ Derived x.before x.after e) → Moves H x
  starts : (u v m : ℕ) → H u ≡ true → (s : Starts u v m x) → Hands x s.handed → Tells x u [] → Moves H x
  answers : (v u m n y : ℕ) (beside : List ℕ) → H v ≡ true → (s : Answers v u m n x) → Carries x.before s.given beside v (m ∷ y ∷ [])
      → term_in x.before y ≡ datum u → Hands x s.handed → Tells x v (m ∷ y ∷ []) → Moves H x
  replies : (u v m n : ℕ) → H u ≡ true → (s : Replies u v m n x) → Hands x s.handed → Tells x u (m ∷ n ∷ s.name ∷ s.others) → Moves H x
  accepts : (v u n : ℕ) → H v ≡ true → Accepts v u n x → Unhanded x 0 → Tells x v (n ∷ []) → Moves H x

-- ---- what request r gave on the table t
pub record Followed (H : ℕ → Bool) (t : Table) (r : Request) (o : Outcome) : Type 0 where
  pub grows : Grows t o.table
  pub moves : Moves H (turn t r o)

-- an answer whose word isn't `accepted`
pub not_accepted : {n : ℕ} {xs : List ℕ} → n ≢ 3 → (v u : ℕ) → n ∷ xs ≢ accepted v u
not_accepted d v u q = d (first_of q)

-- nothing but an answer
pub answers_only : (H : ℕ → Bool) (t : Table) (r : Request) (n : ℕ) (xs : List ℕ) → n ≢ 3 → Followed H t r (gives (n ∷ xs) t)
answers_only H t r n xs d = record { grows = grows_refl t; moves = derives (not_accepted d) (λ k m e i. i) (λ e i. inl i) }

pub refuses : (H : ℕ → Bool) (t : Table) (r : Request) (n : ℕ) → Followed H t r (gives (refused n) t)
refuses H t r n = answers_only H t r 7 (n ∷ []) (omega arith)
