-- A new entry with its grants stands as it was written, held by just those that a test names, and every older entry stays as it is:
-- creating and granting write no word of it. Assumes nothing.
use Prim.Native.Nat.{ℕ, suc, ◌+◌, ◌≤◌}
use native.Mathlib.Omega.{arith}
use mathlib.Core.Path.{◌≡◌, refl, ◌∙◌}
use mathlib.Core.Bool.{Bool}
use Rattle.rules.specs.Table.{Table, most, capacity, used, handle}
use Rattle.rules.specs.Terms.{Term, new_entry, create}
use Rattle.rules.specs.Handles.{holds}
use Rattle.rules.specs.SetUp.{grant_named}
use Rattle.rules.proofs.Granting.{holds_same}
use Rattle.rules.proofs.Rows.{Reads}
use Rattle.rules.proofs.Shaped.{Used}
use Rattle.rules.proofs.Grows.{Grows, grows_refl, grows_trans, grows_most}
use Rattle.rules.proofs.Sized.{Sized, sized_new, sized_grows}
use Rattle.rules.proofs.Margins.{Margins, margins_refl, margins_trans}
use Rattle.rules.proofs.Created.{Created, created}
use Rattle.rules.proofs.Counted.{Counted, counted_untouched}
use Rattle.rules.proofs.Named.{Given, named_given}

-- entry e is the term x, of length l, and of the form's knowers just those hold it that the test names
pub record Stands (t : Table) (e : ℕ) (x : Term) (l : ℕ) (named : ℕ → Bool) : Type 0 where
  pub numbers : Reads t e x l
  pub holders : (k : ℕ) → k ≤ most t → holds t k e ≡ named k

-- table s has all that t has, and the handles on it
pub record Extends (t s : Table) : Type 0 where
  pub grows : Grows t s
  pub margins : Margins t s
  pub handles : (k e : ℕ) → Used t e → handle s k e ≡ handle t k e

pub extends_refl : (t : Table) → Extends t t
extends_refl t = record { grows = grows_refl t; margins = margins_refl t; handles = λ k e w. refl }

pub extends_trans : {a b c : Table} → Extends a b → Extends b c → Extends a c
extends_trans x y = record {
  grows = grows_trans x.grows y.grows;
  margins = margins_trans x.grows x.margins y.margins;
  handles = λ k e w. y.handles k e (record { low = w.low; high = omega (arith, x.grows.more, w.high) }) ∙ x.handles k e w;
}

pub stands_kept : {t s : Table} {e : ℕ} {x : Term} {l : ℕ} {named : ℕ → Bool} → Extends t s → Used t e → Stands t e x l named → Stands s e x l named
stands_kept {t} {s} {e} g w h = record {
  numbers = λ i b. g.grows.terms e i w.low w.high b ∙ h.numbers i b;
  holders = λ k b. holds_same t s k e (g.handles k e w) ∙ h.holders k (omega (arith, grows_most g.grows));
}

-- ---- one entry more, with its grants
abbrev pub add_named : Table → Term → ℕ → (ℕ → Bool) → Table
add_named t x l named = grant_named (create t x l) named (new_entry t) (most (create t x l))

pub record Added (t : Table) (x : Term) (l : ℕ) (named : ℕ → Bool) (s : Table) : Type 0 where
  pub extends : Extends t s
  pub one : used s ≡ used t + 1
  pub counted : (k : ℕ) → Counted s k
  pub new : Stands s (used t + 1) x l named

module _ (t : Table) (x : Term) (l : ℕ) (named : ℕ → Bool) (z : Sized t) (room : used t + 1 ≤ capacity t) (c : (k : ℕ) → Counted t k) where
  made : Created t x l
  made = created t x l z (omega arith)

  given : Given (create t x l) named (new_entry t) (add_named t x l named) (suc (most (create t x l)))
  given = named_given (create t x l) named (new_entry t) (sized_grows made.grows (omega (arith, made.one)) z) made.uses
      (λ k. counted_untouched made.grows (made.untouched k) (c k))
      (λ k. (made.untouched k).fresh (new_entry t) (omega (arith, sized_new z)) made.uses.high)
      (most (create t x l)) (omega arith)

  pub named_added : Added t x l named (add_named t x l named)
  named_added = record {
    extends = record {
      grows = grows_trans made.grows given.grows;
      margins = margins_trans made.grows made.margins given.margins;
      handles = λ k e w. given.elsewhere k e w.low (λ q. omega (arith, w.high, sized_new z)) ∙ (made.untouched k).old e w;
    };
    one = given.same ∙ made.one;
    counted = given.counted;
    new = rw (← sized_new z) (record {
      numbers = λ i h. given.grows.terms (new_entry t) i made.uses.low made.uses.high h ∙ made.reads i h;
      holders = λ k h. given.done k (omega (arith, grows_most given.grows));
    });
  }
