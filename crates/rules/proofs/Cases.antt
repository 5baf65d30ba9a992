-- Every row of the table of cases holds of the rules: one test, computed, and what a row that passes it says. Assumes nothing.
use Prim.Native.Nat.{ℕ, zero, suc, ◌<◌}
use native.Mathlib.Nat.{le_of_suc-le-suc, not-suc-le-zero}
use mathlib.Core.Path.{◌≡◌, refl, ap₂}
use mathlib.Core.Bool.{true}
use mathlib.Core.List.{List, [], ◌∷◌}
use lib.Dec.{eqb}
use lib.ListN.{length, get_or, take}
use borrow.Author.Tests.{eqb-true}
use Rattle.rules.specs.Choice.{same}
use Rattle.rules.specs.Table.{Table, used, next_handle}
use Rattle.rules.specs.Handles.{entry_of}
use Rattle.rules.specs.Outcome.{Outcome}
use Rattle.rules.specs.Machine.{Request, step, set_up, run, table_after}
use Rattle.rules.specs.Session.{write_record}
use Rattle.rules.specs.Player.{played}
use Rattle.rules.specs.Calls.{play_into, perform_into}
use Rattle.rules.specs.Cases.{Case, plays, comes_to, changed, cut, sets, leaves, prints, calls, performs, writes, nines, fresh, cases, answers, same_answers, names_from, holdings, changed_by, written_numbers, is_right, all_right}
use Rattle.rules.specs.Open.{everything}
use Rattle.rules.proofs.Logic.{and_left, and_right, never, same_true}

-- ---- what a row says
-- handles h, h + 1, .. name these entries to knower k, and the one after them is its next
abbrev pub Names : Table → ℕ → ℕ → List ℕ → Type 0
Names t k h [] = next_handle t k ≡ h
Names t k h (e ∷ es) = (entry_of t k h ≡ e) × Names t k (suc h) es

abbrev pub Hold : Table → List (List ℕ) → Type 0
Hold t [] = Unit {0}
Hold t ([] ∷ more) = Hold t more
Hold t ((k ∷ es) ∷ more) = Names t k 1 es × Hold t more

-- after a set-up and these requests: the answers, the used entries, who holds what
pub record Played (o : Outcome) (rs : List Request) (expected : List (List ℕ)) (u : ℕ) (hs : List (List ℕ)) : Type 0 where
  pub answered : answers (o ∷ run rs o.table) ≡ expected
  pub uses : used (table_after o.table (run rs o.table)) ≡ u
  pub hold : Hold (table_after o.table (run rs o.table)) hs

abbrev pub Says : Case → Type 0
Says (plays n m c rs expected u hs) = Played (fresh n m c) rs expected u hs
Says (comes_to n m c rs expected) = table_after (fresh n m c).table (run rs (fresh n m c).table) ≡ expected
Says (changed t cs r expected) = (step r (changed_by t cs)).answer ≡ expected
Says (cut t size r expected) = (step r (take size t)).answer ≡ expected
Says (sets size n m c expected) = (set_up n m c (nines size)).answer ≡ expected
Says (leaves size n m c expected) = (set_up n m c (nines size)).table ≡ expected
Says (prints file text) = played file ≡ text
Says (calls file out result after) = ((play_into file out).result ≡ result) × ((play_into file out).output ≡ after)
Says (performs b size out result t after) =
    ((perform_into b (nines size) out).result ≡ result) × ((perform_into b (nines size) out).table ≡ t) × ((perform_into b (nines size) out).output ≡ after)
Says (writes r out w after) = (written_numbers (write_record r out).written ≡ w) × ((write_record r out).output ≡ after)

-- ---- a row that passes its test says so
same_answers_lem : (xs ys : List (List ℕ)) → same_answers xs ys ≡ true → xs ≡ ys
unfolding same_answers
same_answers_lem [] [] e = refl
same_answers_lem [] (y ∷ ys) e = never e refl
same_answers_lem (x ∷ xs) [] e = never e refl
same_answers_lem (x ∷ xs) (y ∷ ys) e =
    ap₂ (λ (a : List ℕ) (b : List (List ℕ)). a ∷ b)
    (same_true x y (and_left (same x y) (same_answers xs ys) e))
    (same_answers_lem xs ys (and_right (same x y) (same_answers xs ys) e))

names_hold : (t : Table) (k h : ℕ) (es : List ℕ) → names_from t k h es ≡ true → Names t k h es
unfolding names_from
names_hold t k h [] e = eqb-true (next_handle t k) h e
names_hold t k h (x ∷ es) e = (
  eqb-true (entry_of t k h) x (and_left (eqb (entry_of t k h) x) _ e),
  names_hold t k (suc h) es (and_right (eqb (entry_of t k h) x) _ e),
)

all_hold : (t : Table) (hs : List (List ℕ)) → holdings t hs ≡ true → Hold t hs
unfolding holdings
all_hold t [] e = tt
all_hold t ([] ∷ more) e = all_hold t more e
all_hold t ((k ∷ es) ∷ more) e = (
  names_hold t k 1 es (and_left (names_from t k 1 es) _ e),
  all_hold t more (and_right (names_from t k 1 es) _ e),
)

row_says : (c : Case) → is_right c ≡ true → Says c
unfolding is_right
row_says (plays n m c rs expected u hs) e =
    let o = fresh n m c in
    let t = table_after o.table (run rs o.table) in
    let rest = and_right (same_answers (answers (o ∷ run rs o.table)) expected) _ e in
    record {
      answered = same_answers_lem (answers (o ∷ run rs o.table)) expected (and_left _ _ e);
      uses = eqb-true (used t) u (and_left (eqb (used t) u) _ rest);
      hold = all_hold t hs (and_right (eqb (used t) u) _ rest);
    }
row_says (comes_to n m c rs expected) e = same_true _ expected e
row_says (changed t cs r expected) e = same_true _ expected e
row_says (cut t size r expected) e = same_true _ expected e
row_says (sets size n m c expected) e = same_true _ expected e
row_says (leaves size n m c expected) e = same_true _ expected e
row_says (prints file text) e = same_true (played file) text e
row_says (calls file out result after) e = (
  eqb-true (play_into file out).result result (and_left (eqb (play_into file out).result result) _ e),
  same_true (play_into file out).output after (and_right (eqb (play_into file out).result result) _ e),
)
row_says (performs b size out result t after) e =
    let p = perform_into b (nines size) out in
    let rest = and_right (eqb p.result result) _ e in (
      eqb-true p.result result (and_left (eqb p.result result) _ e),
      same_true p.table t (and_left (same p.table t) _ rest),
      same_true p.output after (and_right (same p.table t) _ rest),
    )
row_says (writes r out w after) e =
    let p = write_record r out in (
      same_true (written_numbers p.written) w (and_left (same (written_numbers p.written) w) _ e),
      same_true p.output after (and_right (same (written_numbers p.written) w) _ e),
    )

at : (cs : List Case) → all_right cs ≡ true → (d : Case) (i : ℕ) → i < length cs → Says (get_or cs i d)
unfolding all_right
at [] e d i h = absurd (not-suc-le-zero h)
at (c ∷ cs) e d zero h = row_says c (and_left (is_right c) (all_right cs) e)
at (c ∷ cs) e d (suc i) h = at cs (and_right (is_right c) (all_right cs) e) d i (le_of_suc-le-suc h)

-- ---- the statement
pub all_cases : all_right cases ≡ true
unfolding everything
all_cases = refl

-- what row i of the table says holds of the rules
pub case_holds : (d : Case) (i : ℕ) → i < length cases → Says (get_or cases i d)
case_holds d i h = at cases all_cases d i h
