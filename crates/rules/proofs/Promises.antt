-- What is promised of the rules, each theorem with its whole statement, in one place. The words are those of specs/Handshake.antt and of
-- the rules; the proofs stand in the files that are cited. Assumes nothing.
use Prim.Native.Nat.{ℕ, ◌+◌, ◌*◌, ◌≤◌}
use mathlib.Core.Path.{◌≡◌}
use mathlib.Core.Logic.{◌≢◌}
use mathlib.Core.Bool.{true}
use mathlib.Core.List.{List, [], ◌∷◌, ◌++◌, Memᴰ}
use lib.ListN.{length}
use Rattle.rules.specs.Table.{Table, capacity, used, handle, honest}
use Rattle.rules.specs.Terms.{nonce, secret_key_of}
use Rattle.rules.specs.SetUp.{set_up_fits, set_up_table}
use Rattle.rules.specs.WellFormed.{well_formed}
use Rattle.rules.specs.Outcome.{accepted, refused, dropped, ready}
use Rattle.rules.specs.Machine.{Request, Parse, SetUp, step, set_up}
use Rattle.rules.specs.Session.{Item, item, items_of, requests_in}
use Rattle.rules.specs.Player.{line_of, cut_lines, players_table, played}
use Rattle.rules.specs.Handshake.{term_in, turn, turns, InOrder, Starts, Answers, Replies, Accepts, HonestRun, reached}
use Rattle.rules.proofs.Keeps as keeps
use Rattle.rules.proofs.AfterSetUp as after
use Rattle.rules.proofs.SetUpFormed as formed
use Rattle.rules.proofs.Stays as stays
use Rattle.rules.proofs.Authentic as secure
use Rattle.rules.proofs.HonestRun as run
use Rattle.rules.proofs.Sessions as sessions

-- ---- demand 1: refusals change nothing
-- a refusal has a number from 1 to 10, and the table keeps every word
pub refusals_keep : (r : Request) (t : Table) (k : ℕ) → (step r t).answer ≡ refused k → ((step r t).table ≡ t) × (1 ≤ k) × (k ≤ 10)
refusals_keep = keeps.refused_keeps

-- so it does when a message is dropped, and after parse
pub dropped_keeps : (r : Request) (t : Table) → (step r t).answer ≡ dropped → (step r t).table ≡ t
dropped_keeps = keeps.dropped_keeps

pub parse_keeps : (h : ℕ) (t : Table) → (step (Parse h) t).table ≡ t
parse_keeps = keeps.parse_keeps

-- set-up refuses with 2 alone, and the run keeps every word
pub set_up_keeps : (n m c : ℕ) (t : Table) (k : ℕ) → (set_up n m c t).answer ≡ refused k → (k ≡ 2) × ((set_up n m c t).table ≡ t)
set_up_keeps = keeps.set_up_refuses

-- ---- well-formed tables stay so
-- a set-up that isn't refused gives `ready` with 2n entries used and the table `set_up_table`
pub set_up_gives : (n m c : ℕ) (t : Table) (u : ℕ) → (set_up n m c t).answer ≡ ready u
    → (set_up_fits t n m c ≡ true) × ((set_up n m c t).table ≡ set_up_table t n m c) × (u ≡ 2 * n)
set_up_gives = after.set_up_answers

-- which is well formed
pub set_up_formed : (n m c : ℕ) (t : Table) → set_up_fits t n m c ≡ true → well_formed (set_up_table t n m c) ≡ true
set_up_formed = formed.set_up_formed

-- and every request keeps a table so
pub requests_formed : (r : Request) (t : Table) → well_formed t ≡ true → well_formed (step r t).table ≡ true
requests_formed = stays.step_formed

-- so no request after a set-up is ever refused with 1
pub never_one : (n m c : ℕ) (t : Table) → set_up_fits t n m c ≡ true → (rs : List Request) (r : Request) → (step r (reached n m c t rs)).answer ≡ refused 1 → ⊥
never_one n m c t f rs r = keeps.formed_passes r (reached n m c t rs) (stays.run_formed rs (set_up_table t n m c) (formed.set_up_formed n m c t f))

-- ---- demand 3, first clause: nobody is accepted who did not ask
-- after a set-up and any requests rs, if a request makes honest v accept honest u on the nonce k, then among the turns of rs there are, in
-- this order of time, u's start with v using a fresh nonce w, v's answer with exactly w, k and its name, u's answer with exactly k
pub authentication : (n m c : ℕ) (t : Table) → set_up_fits t n m c ≡ true → (rs : List Request) (r : Request) (v u k : ℕ)
    → honest (set_up_table t n m c) v ≡ true → honest (set_up_table t n m c) u ≡ true
    → Accepts v u k (turn (reached n m c t rs) r (step r (reached n m c t rs)))
    → (w : ℕ) × InOrder (Starts u v w ∷ Answers v u w k ∷ Replies u v w k ∷ []) (turns rs (set_up_table t n m c))
authentication n m c t f rs = secure.authentic t n m c f rs

-- and whoever answers `accepted` did accept, on some nonce
pub accepted_on : (t : Table) (r : Request) (v u : ℕ) → (step r t).answer ≡ accepted v u → (k : ℕ) × Accepts v u k (turn t r (step r t))
accepted_on = secure.accepts_on

-- ---- the same for what a fitter reads
-- what stands behind a line `k accepted v u`: the file begins with a set-up that isn't refused; record k is one of its requests, which makes
-- v accept u on the nonce `on`; and if both are honest, the three are among the records before it
pub record Behind (file : List ℕ) (k v u : ℕ) : Type 1 where
  pub n : ℕ
  pub m : ℕ
  pub c : ℕ
  pub more : List Item
  pub begins : items_of file ≡ item (SetUp n m c) ∷ more
  pub fits : set_up_fits players_table n m c ≡ true
  pub before : List Request
  pub request : Request
  pub after : List Request
  pub records : requests_in more ≡ before ++ (request ∷ after)
  pub place : k ≡ 2 + length before
  pub on : ℕ
  pub accepts : Accepts v u on (turn (reached n m c players_table before) request (step request (reached n m c players_table before)))
  pub order : honest (set_up_table players_table n m c) v ≡ true → honest (set_up_table players_table n m c) u ≡ true
      → (w : ℕ) × InOrder (Starts u v w ∷ Answers v u w on ∷ Replies u v w on ∷ []) (turns before (set_up_table players_table n m c))

pub printed : (file : List ℕ) (k v u : ℕ) → Memᴰ (line_of k (accepted v u)) (cut_lines (played file)) → Behind file k v u
printed file k v u i =
    let b = sessions.behind file k v u i in
    let a = accepted_on (reached b.n b.m b.c players_table b.by.before) b.by.request v u b.by.told in
    record {
      n = b.n;
      m = b.m;
      c = b.c;
      more = b.more;
      begins = b.begins;
      fits = b.fits;
      before = b.by.before;
      request = b.by.request;
      after = b.by.after;
      records = b.by.records;
      place = b.by.place;
      on = a.0;
      accepts = a.1;
      order = λ hv hu. authentication b.n b.m b.c players_table b.fits b.by.before b.by.request v u a.0 hv hu a.1;
    }

-- ---- demand 3, second clause: who asks is accepted
-- with 13 entries free, an honest run between two honest participants ends in acceptance
pub honest_run : (t : Table) (u v : ℕ) → well_formed t ≡ true → honest t u ≡ true → honest t v ≡ true → u ≢ v → used t + 13 ≤ capacity t → HonestRun t u v
honest_run = run.honest_run

-- so also from every table that requests can reach after a set-up
pub honest_run_reached : (n m c : ℕ) (t : Table) → set_up_fits t n m c ≡ true → (rs : List Request) (u v : ℕ)
    → honest (reached n m c t rs) u ≡ true → honest (reached n m c t rs) v ≡ true → u ≢ v
    → used (reached n m c t rs) + 13 ≤ capacity (reached n m c t rs) → HonestRun (reached n m c t rs) u v
honest_run_reached = run.honest_run_reached

-- ---- secrecy
-- a nonce of two honest participants is held by nobody else, neither knower 0 nor another participant
pub nonces_secret : (n m c : ℕ) (t : Table) → set_up_fits t n m c ≡ true → (rs : List Request) (e p q : ℕ)
    → term_in (reached n m c t rs) e ≡ nonce p q → honest (set_up_table t n m c) p ≡ true → honest (set_up_table t n m c) q ≡ true
    → (k : ℕ) → k ≢ p → k ≢ q → handle (reached n m c t rs) k e ≡ 0
nonces_secret n m c t f rs = secure.secret_nonces t n m c f rs

-- an honest participant's secret key is held by nobody else
pub keys_secret : (n m c : ℕ) (t : Table) → set_up_fits t n m c ≡ true → (rs : List Request) (p k : ℕ)
    → honest (set_up_table t n m c) p ≡ true → k ≢ p → handle (reached n m c t rs) k (secret_key_of p) ≡ 0
keys_secret n m c t f rs = secure.secret_keys t n m c f rs
