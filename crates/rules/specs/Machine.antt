-- The machine: what each request gives on each run of numbers, well formed or not, and what a sequence of requests gives (rules M1 to M4).
use Rattle.std.specs.Prelude.{ℕ, List, [], ◌∷◌}
use Rattle.rules.specs.Table.{Table, used}
use Rattle.rules.specs.SetUp.{set_up_fits, set_up_table}
use Rattle.rules.specs.WellFormed.{well_formed}
use Rattle.rules.specs.Outcome.{Outcome, gives, ready, need}
use Rattle.rules.specs.Commands.{store, new_nonce, make_list, project, encrypt, decrypt, parse}
use Rattle.rules.specs.Steps.{start, deliver}

-- M1: a request is one of the nine commands with its numbers; a list has its count and four numbers
pub data Request : Type 0 where
  Start : ℕ → ℕ → Request
  Deliver : ℕ → ℕ → ℕ → Request
  Store : ℕ → Request
  Nonce : Request
  MakeList : ℕ → ℕ → ℕ → ℕ → ℕ → Request
  Project : ℕ → ℕ → Request
  Encrypt : ℕ → ℕ → Request
  Decrypt : ℕ → ℕ → Request
  Parse : ℕ → Request

-- M2: what a request does, the table's form not being tested
unfoldable pub act : Request → Table → Outcome
act (Start u v) t = start t u v
act (Deliver s r h) t = deliver t s r h
act (Store d) t = store t d
act Nonce t = new_nonce t
act (MakeList k a b c d) t = make_list t k (a ∷ b ∷ c ∷ d ∷ [])
act (Project h i) t = project t h i
act (Encrypt k l) t = encrypt t k l
act (Decrypt k c) t = decrypt t k c
act (Parse h) t = parse t h

-- M2: the same, with refusal 1 for a table that isn't well formed
unfoldable pub step : Request → Table → Outcome
step r t = need (well_formed t) 1 t (act r t)

-- M3: set-up, which refuses with 2 alone
unfoldable pub set_up : ℕ → ℕ → ℕ → Table → Outcome
set_up n m c t =
    need (set_up_fits t n m c) 2 t
    (let s = set_up_table t n m c in
    gives (ready (used s)) s)

-- M3: a record asks for a set-up or for a request
pub data Record : Type 0 where
  SetUp : ℕ → ℕ → ℕ → Record
  Asks : Request → Record

unfoldable pub perform : Record → Table → Outcome
perform (SetUp n m c) t = set_up n m c t
perform (Asks r) t = step r t

-- M3: the same, the table's form not being tested
unfoldable pub untested : Record → Table → Outcome
untested (SetUp n m c) t = set_up n m c t
untested (Asks r) t = act r t

-- M4: the outcome after each request of a sequence
unfoldable pub run : List Request → Table → List Outcome
run [] t = []
run (r ∷ rs) t =
    let o = step r t in
    o ∷ run rs o.table

-- M4: the table that a sequence of outcomes leaves, from the table before them
unfoldable pub table_after : Table → List Outcome → Table
table_after t [] = t
table_after t (o ∷ os) = table_after o.table os
