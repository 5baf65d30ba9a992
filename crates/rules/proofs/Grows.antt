-- What every step of a command leaves: the run's length, the head up to the capacity, and what each used entry is. Creating and
-- granting leave it, by the words that they don't write. Assumes nothing.
use Rattle.std.specs.Prelude.{if◌then◌else◌}
use Prim.Native.Nat.{ℕ, ◌+◌, ◌*◌, ◌≤◌, ◌<◌}
use native.Mathlib.Omega.{arith}
use mathlib.Core.Path.{◌≡◌, refl, sym, ◌∙◌}
use mathlib.Core.Bool.{Bool, true, false}
use mathlib.Core.List.{List}
use lib.Dec.{leb}
use lib.ListN.{length}
use borrow.Author.Tests.{le-leb, lt-leb}
use Rattle.rules.specs.Choice.{◌and◌}
use Rattle.rules.specs.Table.{Table, size, most, row_width, word, largest, used, arguments, is_participant, honest}
use Rattle.rules.specs.Terms.{blank, elements, term_at, new_entry, add_entry}
use Rattle.rules.specs.Handles.{grant}
use Rattle.rules.specs.Handshake.{term_in}
use Rattle.rules.proofs.Words.{most_low, most_version}
use Rattle.rules.proofs.Granting.{grant_size, grant_head, grant_term}
use Rattle.rules.proofs.Creating.{new_idle, new_real, create_size, create_word, create_used}

pub record Grows (t t' : Table) : Type 0 where
  pub run : size t' ≡ size t
  pub head : (i : ℕ) → i < 4 → word t' 0 i ≡ word t 0 i
  pub more : used t ≤ used t'
  pub terms : (e i : ℕ) → 1 ≤ e → e ≤ used t → i < 7 → word t' e i ≡ word t e i

pub grows_refl : (t : Table) → Grows t t
grows_refl t = record { run = refl; head = λ i h. refl; more = omega arith; terms = λ e i a b h. refl }

pub grows_trans : {a b c : Table} → Grows a b → Grows b c → Grows a c
grows_trans g g' = record {
  run = g'.run ∙ g.run;
  head = λ i h. g'.head i h ∙ g.head i h;
  more = omega (arith, g.more, g'.more);
  terms = λ e i a b h. g'.terms e i a (omega (arith, g.more)) h ∙ g.terms e i a b h;
}

pub grows_most : {t t' : Table} → Grows t t' → most t' ≡ most t
grows_most {t} {t'} g = most_version t' t (g.head 0 (omega arith))

pub grows_honest : {t t' : Table} → Grows t t' → (p : ℕ) → honest t' p ≡ honest t p
unfolding honest is_participant
grows_honest {t} {t'} g p = rw (grows_most g, g.head 1 (omega arith), g.head 2 (omega arith)) refl

-- ---- the terms stay
pub term_kept : {t t' : Table} → Grows t t' → (e : ℕ) → 1 ≤ e → e ≤ used t → term_at t' e ≡ term_at t e
unfolding term_at elements arguments
term_kept {t} {t'} g e a b =
    rw (
      g.terms e 0 a b (omega arith),
      g.terms e 1 a b (omega arith),
      g.terms e 2 a b (omega arith),
      g.terms e 3 a b (omega arith),
      g.terms e 4 a b (omega arith),
      g.terms e 5 a b (omega arith),
    ) refl

pub term_in_lem : (t : Table) (e : ℕ) → 1 ≤ e → e ≤ used t → term_in t e ≡ term_at t e
unfolding term_in
term_in_lem t e a b = rw (le-leb 1 e a, le-leb e (used t) b) refl

pub term_out : (t : Table) (e : ℕ) → used t < e → term_in t e ≡ blank
unfolding term_in
term_out t e h = go (leb 1 e)
  where
    go : (b : Bool) → (if b and leb e (used t) then term_at t e else blank) ≡ blank
    go true = rw (lt-leb e (used t) h) refl
    go false = refl

pub term_zero : (t : Table) → term_in t 0 ≡ blank
unfolding term_in
term_zero t = refl

pub term_stays : {t t' : Table} → Grows t t' → (e : ℕ) → 1 ≤ e → e ≤ used t → term_in t' e ≡ term_in t e
term_stays {t} {t'} g e a b = term_in_lem t' e a (omega (arith, g.more)) ∙ term_kept g e a b ∙ sym (term_in_lem t e a b)

-- ---- granting
pub grant_grows : (t : Table) (k e : ℕ) → 1 ≤ e → Grows t (grant t k e)
grant_grows t k e real = record {
  run = grant_size t k e;
  head = λ i h. grant_head t k e i real (omega arith);
  more = omega (arith, grant_head t k e 4 real (omega arith));
  terms = λ x i a b h. grant_term t k e x i a h;
}

pub grant_used : (t : Table) (k e : ℕ) → 1 ≤ e → used (grant t k e) ≡ used t
grant_used t k e real = grant_head t k e 4 real (omega arith)

-- ---- creating, where the run has the row and a word holds the number
module _ (t : Table) (ns : List ℕ) (seven : length ns ≡ 7) (fits : used t < largest) (long : row_width t ≤ size t)
    (row : row_width t * new_entry t + row_width t ≤ size t) where
  pub add_used : used (add_entry t ns) ≡ used t + 1
  add_used = create_used t ns seven row long ∙ new_idle t fits

  pub add_grows : Grows t (add_entry t ns)
  add_grows = record {
    run = create_size t ns seven row;
    head = λ i h. create_word t ns seven row 0 i (omega (arith, most_low t)) (λ q. omega (arith, new_real t)) (λ q r. omega arith);
    more = omega (arith, add_used);
    terms = λ e i a b h. create_word t ns seven row e i (omega (arith, most_low t)) (λ q. omega (arith, new_idle t fits)) (λ q. absurd (omega arith));
  }
