-- Entries made by creating alone, new or found: the table grows, nobody gets a handle, and the entry is the term asked for. In a shaped
-- table with room no guard stops this. Assumes nothing.
use Rattle.std.specs.Prelude.{if◌then◌else◌}
use Prim.Native.Nat.{ℕ, ◌+◌, ◌≤◌}
use native.Mathlib.Omega.{arith}
use native.Mathlib.Decide.{ℕ_discrete}
use mathlib.Core.Path.{◌≡◌, ◌∙◌}
use lib.Dec.{eqb}
use lib.ListN.{length}
use borrow.Author.Tests.{eq-eqb, ne_eqb}
use Rattle.rules.specs.Table.{Table, capacity, used}
use Rattle.rules.specs.Terms.{Term, arguments_of, new_entry, create}
use Rattle.rules.specs.Steps.{Made, make, make_unless, unless_found}
use Rattle.rules.specs.Handshake.{term_in}
use Rattle.rules.proofs.Shaped.{Used, Shaped}
use Rattle.rules.proofs.Grows.{Grows, grows_refl, grows_trans, term_in_lem, term_stays}
use Rattle.rules.proofs.Holding.{Untouched, untouched_refl, untouched_trans}
use Rattle.rules.proofs.Sized.{Sized, sized_shaped, sized_new, sized_grows}
use Rattle.rules.proofs.Rows.{row_term}
use Rattle.rules.proofs.Created.{Created, created}
use Rattle.rules.proofs.Reading.{Found, absent, present}
use Rattle.rules.proofs.Needs.{unless_none, unless_some}

-- m was made from t, and its entry is x
pub record Creates (t : Table) (x : Term) (m : Made) : Type 0 where
  pub grows : Grows t m.table
  pub silent : (k : ℕ) → Untouched k t m.table
  pub uses : Used m.table m.entry
  pub is : term_in m.table m.entry ≡ x

pub creates_after : {t s : Table} {x : Term} {m : Made} → Grows t s → ((k : ℕ) → Untouched k t s) → Creates s x m → Creates t x m
creates_after g u c =
    record { grows = grows_trans g c.grows; silent = λ k. untouched_trans g (u k) (c.silent k); uses = c.uses; is = c.is }

pub creates_stays : {t s : Table} {x : Term} {m : Made} → Creates t x m → Grows m.table s → term_in s m.entry ≡ x
creates_stays c g = term_stays g _ c.uses.low c.uses.high ∙ c.is

module _ (t : Table) (sh : Shaped t) (s : Table) (g : Grows t s) (x : Term) (l : ℕ) (few : length (arguments_of x) ≤ 4) where
  module _ (room : used s + 1 ≤ capacity t) where
    sized : Sized s
    sized = sized_grows g (omega arith) (sized_shaped sh)

    made : Created s x l
    made = created s x l sized (omega (arith, g.head 3 (omega arith)))

    pub make_entry : (make s x l).entry ≡ used s + 1
    unfolding make
    make_entry = sized_new sized

    pub make_used : used (make s x l).table ≡ used s + 1
    unfolding make
    make_used = made.one

    pub make_creates : Creates s x (make s x l)
    unfolding make
    make_creates = record {
      grows = made.grows;
      silent = made.untouched;
      uses = made.uses;
      is = term_in_lem (create s x l) (new_entry s) made.uses.low made.uses.high ∙ row_term (create s x l) (new_entry s) x l made.reads few;
    }

  -- a found entry, or a new one
  module _ (found : ℕ) (search : Found s x found) (room : used s + length (unless_found found l) ≤ capacity t) where
    pub unless_creates : Creates s x (make_unless found s x l)
    unfolding make_unless
    unless_creates = go search
      where
        go : Found s x found → Creates s x (if eqb found 0 then make s x l else record { entry = found; table = s })
        go (absent z) = rw (eq-eqb found 0 z) (make_creates (omega (arith, unless_none found l z)))
        go (present u is) =
            rw (ne_eqb found 0 (λ z. omega (arith, u.low)))
            (record { grows = grows_refl s; silent = λ k. untouched_refl k s; uses = u; is = is })

    pub unless_used : used (make_unless found s x l).table ≡ used s + length (unless_found found l)
    unfolding make_unless
    unless_used = go (ℕ_discrete found 0)
      where
        go : Dec (found ≡ 0)
            → used (if eqb found 0 then make s x l else record { entry = found; table = s }).table ≡ used s + length (unless_found found l)
        go (yes z) = rw (eq-eqb found 0 z, unless_none found l z) (make_used (omega (arith, unless_none found l z)))
        go (no z) = rw (ne_eqb found 0 z, unless_some found l z) (omega arith)
