-- What stands behind a line of a session: a file that is played begins with its set-up, its other records are requests, and the player's
-- answers are those of `run`, so the line of an acceptance is that of one request, after the requests before it. Assumes nothing.
use Rattle.std.specs.Prelude.{if◌then◌else◌}
use Prim.Native.Nat.{ℕ, zero, suc, ◌+◌, ◌*◌, ◌≤◌}
use native.Mathlib.Omega.{arith}
use mathlib.Core.Path.{◌≡◌, refl, sym, ap, ◌∙◌}
use mathlib.Core.Logic.{◌⊎◌, inl, inr}
use mathlib.Core.Bool.{Bool, true, false}
use mathlib.Core.List.Memᴰ
use mathlib.Core.List.{List, [], ◌∷◌, ◌++◌, Memᴰ}
use lib.ListN.{length, get_or}
use borrow.Author.Tests.{ne_eqb}
use Rattle.rules.specs.Table.{Table, used}
use Rattle.rules.specs.SetUp.{set_up_fits, set_up_table}
use Rattle.rules.specs.WellFormed.{well_formed}
use Rattle.rules.specs.Outcome.{Outcome, gives, need, ready, accepted, refused}
use Rattle.rules.specs.Machine.{Request, SetUp, Asks, step, set_up, perform, run, table_after}
use Rattle.rules.specs.Session.{Reading, found, malformed, ended, Item, item, broken, read_record, stands_right, items_by, items_from, items_of, requests_in, file_fits}
use Rattle.rules.specs.Player.{ascii, word_of, line_of, lines_from, cut_lines, players_table, answers_to, played}
use Rattle.rules.specs.Open.{everything}
use Rattle.rules.proofs.Logic.{first_of}
use Rattle.rules.proofs.Keeps.{Kept, refuses, drops, does, kept_step, not_formed}
use Rattle.rules.proofs.AfterSetUp.{set_up_head}
use Rattle.rules.proofs.Lines.{numbered, line_parts, line_accepted, Worded, worded_none, worded_more, lines_cut}

-- ---- what a file holds
-- past the first record there are requests alone, up to the end or to a malformed record
pub data Requests : List Item → Type 0 where
  ends : Requests []
  breaks : Requests (broken ∷ [])
  asks : {more : List Item} (r : Request) → Requests more → Requests (item (Asks r) ∷ more)

requests_by : (r : Reading) (place : ℕ) (rest : ℕ → List Item) → 2 ≤ place → ((next : ℕ) → Requests (rest next)) → Requests (items_by r place rest)
unfolding items_by stands_right
requests_by (found (SetUp n m c) next) place rest h f = rw (ne_eqb place 1 (λ q. omega arith)) breaks
requests_by (found (Asks r) next) place rest h f = rw (ne_eqb place 1 (λ q. omega arith)) (asks r (f next))
requests_by malformed place rest h f = breaks
requests_by ended place rest h f = ends

requests : (steps : ℕ) (file : List ℕ) (place at : ℕ) → 2 ≤ place → Requests (items_from steps file place at)
unfolding items_from
requests zero file place at h = ends
requests (suc steps) file place at h =
    requests_by (read_record file at) place (items_from steps file (place + 1)) h (λ next. requests steps file (place + 1) next (omega arith))

-- a file holds nothing, or breaks at once, or begins with its set-up
pub data Begins : List Item → Type 0 where
  empty : Begins []
  broken_first : Begins (broken ∷ [])
  sets_up : {more : List Item} (n m c : ℕ) → Requests more → Begins (item (SetUp n m c) ∷ more)

begins_by : (r : Reading) (rest : ℕ → List Item) → ((next : ℕ) → Requests (rest next)) → Begins (items_by r 1 rest)
unfolding items_by stands_right
begins_by (found (SetUp n m c) next) rest f = sets_up n m c (f next)
begins_by (found (Asks r) next) rest f = broken_first
begins_by malformed rest f = broken_first
begins_by ended rest f = empty

pub begins : (file : List ℕ) → Begins (items_of file)
unfolding items_of items_from
begins file = go (length file)
  where
    go : (steps : ℕ) → Begins (items_from steps file 1 1)
    go zero = empty
    go (suc steps) = begins_by (read_record file 1) (items_from steps file 2) (λ next. requests steps file 2 next (omega arith))

-- ---- every answer has a word
kept_worded : {low : ℕ} {t : Table} {o : Outcome} {rest : List (List ℕ)} → Kept low t o → Worded rest → Worded (o.answer ∷ rest)
kept_worded (refuses k a b q z) w = worded_more 7 _ q w
kept_worded (drops q z) w = worded_more 4 _ q w
kept_worded (does n vs q a b) w = worded_more n vs q w

requests_worded : {more : List Item} (t : Table) → Requests more → Worded (answers_to more t)
unfolding answers_to perform
requests_worded t ends = worded_none
requests_worded t breaks = worded_more 7 _ refl worded_none
requests_worded t (asks r q) = kept_worded (kept_step r t) (requests_worded (step r t).table q)

set_up_worded : (n m c : ℕ) (t : Table) {rest : List (List ℕ)} → Worded rest → Worded ((set_up n m c t).answer ∷ rest)
unfolding set_up need
set_up_worded n m c t {rest} w = go (set_up_fits t n m c)
  where
    go : (b : Bool) → Worded ((if b then gives (ready (used (set_up_table t n m c))) (set_up_table t n m c) else gives (refused 2) t).answer ∷ rest)
    go true = worded_more 1 _ refl w
    go false = worded_more 7 _ refl w

-- ---- the line of an acceptance
-- it is the line of one request: those before it, and what it was performed on
pub record AcceptedBy (more : List Item) (t : Table) (first k v u : ℕ) : Type 0 where
  pub before : List Request
  pub request : Request
  pub after : List Request
  pub records : requests_in more ≡ before ++ (request ∷ after)
  pub place : k ≡ first + length before
  pub told : (step request (table_after t (run before t))).answer ≡ accepted v u

-- an answer of another number prints another line
not_accepted : (first k v u n : ℕ) (vs : List ℕ) → (n ≡ 3 → ⊥) → line_of k (accepted v u) ≡ line_of first (n ∷ vs) → ⊥
not_accepted first k v u n vs h e = h (first_of (line_accepted first k v u (n ∷ vs) (sym e)).1)

accepted_by : {more : List Item} (t : Table) (first k v u : ℕ) → Requests more
    → Memᴰ (line_of k (accepted v u)) (numbered first (answers_to more t)) → AcceptedBy more t first k v u
unfolding answers_to perform requests_in table_after run
accepted_by t first k v u ends i = absurd (Memᴰ.not-nil i)
accepted_by t first k v u breaks i = absurd (not_accepted first k v u 7 (11 ∷ []) (λ z. omega arith) (Memᴰ.eq_of_singleton i))
accepted_by t first k v u (asks {more} r q) i = go (Memᴰ.cases_cons i) (accepted_by (step r t).table (first + 1) k v u q)
  where
    go : (line_of k (accepted v u) ≡ line_of first (step r t).answer) ⊎ Memᴰ (line_of k (accepted v u)) (numbered (first + 1) (answers_to more (step r t).table))
        → (Memᴰ (line_of k (accepted v u)) (numbered (first + 1) (answers_to more (step r t).table)) → AcceptedBy more (step r t).table (first + 1) k v u)
        → AcceptedBy (item (Asks r) ∷ more) t first k v u
    go (inl e) f =
        let w = line_accepted first k v u (step r t).answer (sym e) in
        record { before = []; request = r; after = requests_in more; records = refl; place = omega (arith, w.0); told = w.1 }
    go (inr j) f =
        let a = f j in
        record {
          before = r ∷ a.before;
          request = a.request;
          after = a.after;
          records = ap (λ (rs : List Request). r ∷ rs) a.records;
          place = omega (arith, a.place);
          told = a.told;
        }

-- ---- a table that isn't well formed refuses every request and stays
module _ (t : Table) (bad : well_formed t ≡ false) where
  stays_bad : (rs : List Request) → table_after t (run rs t) ≡ t
  unfolding table_after run
  stays_bad [] = refl
  stays_bad (r ∷ rs) = rw (not_formed r t bad) (stays_bad rs)

  none_accepted : {more : List Item} {first k v u : ℕ} → AcceptedBy more t first k v u → ⊥
  none_accepted a =
      let q = rw (stays_bad a.before, not_formed a.request t bad) at a.told in
      let z : ◌≡◌ {A = ℕ} 7 3 = first_of q in
      omega arith

pub zeros_bad : well_formed players_table ≡ false
unfolding everything
zeros_bad = refl

one_line : cut_lines (line_of 0 (refused 11)) ≡ line_of 0 (refused 11) ∷ []
unfolding everything
one_line = refl

-- ---- the line of an acceptance in a file's output
pub record Behind (file : List ℕ) (k v u : ℕ) : Type 0 where
  pub n : ℕ
  pub m : ℕ
  pub c : ℕ
  pub more : List Item
  pub begins : items_of file ≡ item (SetUp n m c) ∷ more
  pub fits : set_up_fits players_table n m c ≡ true
  pub by : AcceptedBy more (set_up_table players_table n m c) 2 k v u

module _ (file : List ℕ) (k v u : ℕ) where
  -- behind the set-up's own line, which is no acceptance
  behind_set_up : (n m c : ℕ) {more : List Item} → items_of file ≡ item (SetUp n m c) ∷ more → Requests more
      → Memᴰ (line_of k (accepted v u)) (line_of 1 (set_up n m c players_table).answer ∷ numbered 2 (answers_to more (set_up n m c players_table).table))
      → Behind file k v u
  unfolding set_up need
  behind_set_up n m c {more} q w i = go (set_up_fits players_table n m c) refl (Memᴰ.cases_cons i)
    where
      s : Table
      s = set_up_table players_table n m c

      o : Bool → Outcome
      o b = if b then gives (ready (used s)) s else gives (refused 2) players_table

      go : (b : Bool) → set_up_fits players_table n m c ≡ b
          → (line_of k (accepted v u) ≡ line_of 1 (o b).answer) ⊎ Memᴰ (line_of k (accepted v u)) (numbered 2 (answers_to more (o b).table))
          → Behind file k v u
      go true f (inl e) = absurd (not_accepted 1 k v u 1 (used s ∷ []) (λ z. omega arith) e)
      go true f (inr j) = record { n = n; m = m; c = c; more = more; begins = q; fits = f; by = accepted_by s 2 k v u w j }
      go false f (inl e) = absurd (not_accepted 1 k v u 7 (2 ∷ []) (λ z. omega arith) e)
      go false f (inr j) = absurd (none_accepted players_table zeros_bad (accepted_by players_table 2 k v u w j))

  behind_items : {is : List Item} → items_of file ≡ is → Begins is
      → Memᴰ (line_of k (accepted v u)) (cut_lines (lines_from 1 (answers_to is players_table))) → Behind file k v u
  unfolding answers_to perform cut_lines lines_from
  behind_items q empty i = absurd (Memᴰ.not-nil i)
  behind_items q broken_first i =
      absurd (not_accepted 1 k v u 7 (11 ∷ []) (λ z. omega arith) (Memᴰ.eq_of_singleton (rw (lines_cut 1 (worded_more 7 (11 ∷ []) refl worded_none)) at i)))
  behind_items q (sets_up n m c w) i =
      behind_set_up n m c q w (rw (lines_cut 1 (set_up_worded n m c players_table (requests_worded (set_up n m c players_table).table w))) at i)

  -- a line of the player's output that says that v accepted u
  pub behind : Memᴰ (line_of k (accepted v u)) (cut_lines (played file)) → Behind file k v u
  unfolding played
  behind = go (file_fits file)
    where
      go : (b : Bool) → Memᴰ (line_of k (accepted v u)) (cut_lines (if b then lines_from 1 (answers_to (items_of file) players_table) else line_of 0 (refused 11)))
          → Behind file k v u
      go true i = behind_items refl (begins file) i
      go false i = absurd (not_accepted 0 k v u 7 (11 ∷ []) (λ z. omega arith) (Memᴰ.eq_of_singleton (rw one_line at i)))

-- ---- the line of a set-up
-- it says two for each participant
ready_answer : (n m c u : ℕ) → line_of 1 (set_up n m c players_table).answer ≡ line_of 1 (ready u) → u ≡ 2 * n
unfolding set_up need word_of ascii
ready_answer n m c u = go (set_up_fits players_table n m c) refl
  where
    s : Table
    s = set_up_table players_table n m c

    go : (b : Bool) → set_up_fits players_table n m c ≡ b
        → line_of 1 (if b then gives (ready (used s)) s else gives (refused 2) players_table).answer ≡ line_of 1 (ready u)
        → u ≡ 2 * n
    go true f e =
        sym (first_of (line_parts 1 1 1 1 (used s ∷ []) (u ∷ []) e).2) ∙ (set_up_head n m c players_table f).3
    go false f e = let z : ◌≡◌ {A = ℕ} 7 5 = ap length (line_parts 1 1 7 1 (2 ∷ []) (u ∷ []) e).1 in absurd (omega arith)

module _ (n m c u : ℕ) where
  ready_items : {is more : List Item} → is ≡ item (SetUp n m c) ∷ more → Begins is
      → get_or (cut_lines (lines_from 1 (answers_to is players_table))) 0 [] ≡ line_of 1 (ready u)
      → u ≡ 2 * n
  unfolding answers_to perform
  ready_items q empty e = cc
  ready_items q broken_first e = cc
  ready_items q (sets_up k l d w) e =
      let z : k ≡ n = cc in
      ready_answer k l d u (rw (lines_cut 1 (set_up_worded k l d players_table (requests_worded (set_up k l d players_table).table w))) at e)
      ∙ rw z refl

  -- a file that sets up n participants, and `1 ready u`
  pub ready_line : (file : List ℕ) {more : List Item} → items_of file ≡ item (SetUp n m c) ∷ more
      → get_or (cut_lines (played file)) 0 [] ≡ line_of 1 (ready u)
      → u ≡ 2 * n
  unfolding played
  ready_line file q = go (file_fits file)
    where
      go : (b : Bool)
          → get_or (cut_lines (if b then lines_from 1 (answers_to (items_of file) players_table) else line_of 0 (refused 11))) 0 [] ≡ line_of 1 (ready u)
          → u ≡ 2 * n
      go true e = ready_items q (begins file) e
      go false e = let z = (line_parts 0 1 7 1 (11 ∷ []) (u ∷ []) (rw one_line at e)).0 in absurd (omega arith)
