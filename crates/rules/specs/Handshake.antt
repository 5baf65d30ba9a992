-- What it means that somebody started, answered, replied or accepted, in the words of demand 3: each is read off a request, its answer,
-- and what the answer's handle (or the delivered one) names in the table (rules D1 to D7).
use Rattle.std.specs.Prelude.{ℕ, ◌≡◌, List, [], ◌∷◌, leb, if◌then◌else◌}
use Rattle.rules.specs.Choice.{◌and◌}
use Rattle.rules.specs.Table.{Table, used}
use Rattle.rules.specs.Terms.{Term, datum, nonce, list, ciphertext, blank, term_at, public_key_of}
use Rattle.rules.specs.Handles.{entry_of}
use Rattle.rules.specs.Outcome.{Outcome, sent, accepted}
use Rattle.rules.specs.SetUp.{set_up_table}
use Rattle.rules.specs.Machine.{Request, Start, Deliver, step, run, table_after}

-- D1: the term of a used entry; blank for any other number
unfoldable pub term_in : Table → ℕ → Term
term_in t e = if leb 1 e and leb e (used t) then term_at t e else blank

-- ---- D2: one request of a sequence, with the tables before and after it
pub record Turn : Type 0 where
  pub before : Table
  pub request : Request
  pub answer : List ℕ
  pub after : Table

abbrev pub turn : Table → Request → Outcome → Turn
turn t r o = record { before = t; request = r; answer = o.answer; after = o.table }

-- D2: the turns of a sequence of requests, by the outcomes that `run` gives, in the order of time
unfoldable pub turns_by : Table → List Request → List Outcome → List Turn
turns_by t [] os = []
turns_by t (r ∷ rs) [] = []
turns_by t (r ∷ rs) (o ∷ os) = turn t r o ∷ turns_by o.table rs os

abbrev pub turns : List Request → Table → List Turn
turns rs t = turns_by t rs (run rs t)

-- D2: among the turns there are turns of these kinds, in this order of time
pub data InOrder : List (Turn → Type 0) → List Turn → Type 1 where
  none : {ts : List Turn} → InOrder [] ts
  here : {P : Turn → Type 0} {Ps : List (Turn → Type 0)} {x : Turn} {ts : List Turn} → P x → InOrder Ps ts → InOrder (P ∷ Ps) (x ∷ ts)
  later : {Ps : List (Turn → Type 0)} {x : Turn} {ts : List Turn} → InOrder Ps ts → InOrder Ps (x ∷ ts)

-- D3: knower 0's handle h names a list, of a ciphertext and these others, and the ciphertext is under p's key, of the list of exactly xs
pub record Carries (t : Table) (h : ℕ) (others : List ℕ) (p : ℕ) (xs : List ℕ) : Type 0 where
  pub sealed : ℕ
  pub inner : ℕ
  pub names : term_in t (entry_of t 0 h) ≡ list (sealed ∷ others)
  pub under : term_in t sealed ≡ ciphertext (public_key_of p) inner
  pub holds : term_in t inner ≡ list xs

-- ---- D4: what an honest participant did
-- D4: u started with v, using the nonce m, fresh, beside its own name
pub record Starts (u v m : ℕ) (x : Turn) : Type 0 where
  pub handed : ℕ
  pub name : ℕ
  pub asked : x.request ≡ Start u v
  pub told : x.answer ≡ sent u v handed
  pub carries : Carries x.after handed [] v (m ∷ name ∷ [])
  pub is_name : term_in x.after name ≡ datum u
  pub is_nonce : term_in x.after m ≡ nonce u v
  pub is_fresh : term_in x.before m ≡ blank

-- D4: v answered u with exactly m, a fresh nonce n and its own name
pub record Answers (v u m n : ℕ) (x : Turn) : Type 0 where
  pub given : ℕ
  pub handed : ℕ
  pub name : ℕ
  pub asked : x.request ≡ Deliver u v given
  pub told : x.answer ≡ sent v u handed
  pub carries : Carries x.after handed [] u (m ∷ n ∷ name ∷ [])
  pub is_name : term_in x.after name ≡ datum v
  pub is_nonce : term_in x.after n ≡ nonce v u
  pub is_fresh : term_in x.before n ≡ blank

-- D4: u, handed its own nonce m, then n and v's name, answered v with exactly n
pub record Replies (u v m n : ℕ) (x : Turn) : Type 0 where
  pub given : ℕ
  pub handed : ℕ
  pub beside : List ℕ
  pub name : ℕ
  pub others : List ℕ
  pub asked : x.request ≡ Deliver v u given
  pub told : x.answer ≡ sent u v handed
  pub took : Carries x.before given beside u (m ∷ n ∷ name ∷ others)
  pub is_name : term_in x.before name ≡ datum v
  pub is_nonce : term_in x.before m ≡ nonce u v
  pub carries : Carries x.after handed [] v (n ∷ [])

-- D5: v accepted u on the nonce n
pub record Accepts (v u n : ℕ) (x : Turn) : Type 0 where
  pub given : ℕ
  pub beside : List ℕ
  pub asked : x.request ≡ Deliver u v given
  pub told : x.answer ≡ accepted v u
  pub took : Carries x.before given beside v (n ∷ [])
  pub is_nonce : term_in x.before n ≡ nonce v u

-- ---- D6: the honest run: u starts with v, and each message is delivered to whom it is meant for
abbrev pub one : Table → ℕ → ℕ → Outcome
one t u v = step (Start u v) t

abbrev pub two : Table → ℕ → ℕ → ℕ → Outcome
two t u v h1 = step (Deliver u v h1) (one t u v).table

abbrev pub three : Table → ℕ → ℕ → ℕ → ℕ → Outcome
three t u v h1 h2 = step (Deliver v u h2) (two t u v h1).table

abbrev pub four : Table → ℕ → ℕ → ℕ → ℕ → ℕ → Outcome
four t u v h1 h2 h3 = step (Deliver u v h3) (three t u v h1 h2).table

-- D6: each answer, with the handles that carry the three messages
pub record HonestRun (t : Table) (u v : ℕ) : Type 0 where
  pub h1 : ℕ
  pub h2 : ℕ
  pub h3 : ℕ
  pub starts : (one t u v).answer ≡ sent u v h1
  pub answers : (two t u v h1).answer ≡ sent v u h2
  pub replies : (three t u v h1 h2).answer ≡ sent u v h3
  pub accepts : (four t u v h1 h2 h3).answer ≡ accepted v u

-- D7: what a sequence of requests makes of a table after a set-up
abbrev pub reached : ℕ → ℕ → ℕ → Table → List Request → Table
reached n m c t rs = table_after (set_up_table t n m c) (run rs (set_up_table t n m c))
