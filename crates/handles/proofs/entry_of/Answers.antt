-- `handles::entry_of` meets its contract: a handle other than 0 names the entries that have it as the knower's word.
use Prim.Native.Nat.{ℕ, ◌+◌, ◌≤◌, ◌<◌}
use native.Mathlib.Omega.{arith}
use mathlib.Core.Path.{◌≡◌, refl, sym, ◌∙◌}
use mathlib.Core.Bool.{true, false}
use mathlib.Core.List.{List, []}
use borrow.Author.Tests.{ne_eqb, eqb-false}
use lib.Dec.{eqb}
use Rattle.rules.specs.Table.{Table, most, word}
use Rattle.rules.specs.Handles.{names, entry_of}
use Rattle.rules.specs.Meaning.{found_at, or_nothing}
use Rattle.rules.proofs.Logic.{never, and_same}
use Rattle.rules.proofs.Words.{most_high}
use Rattle.rules.proofs.Granting.{handle_in, handle_out}
use Rattle.rules.proofs.Meaning.{scan_nothing}
use Rattle.rows.specs.Search.{has_both, next_with}
use Rattle.rows.proofs.Search.{lowest_none, next_of_all}
use Rattle.handles.proofs.entry_of.Goals as goal

module _ (t : Table) (k h : ℕ) where
  names_none : ((x : ℕ) → names t k h x ≡ false) → [] ≡ or_nothing (entry_of t k h)
  unfolding entry_of
  names_none f = scan_nothing _ _ (lowest_none _ _ (λ x a b p. never p (f x)))

  no_handle : eqb h 0 ≡ true → (x : ℕ) → names t k h x ≡ false
  unfolding names
  no_handle z x = rw z refl

  module _ (some : eqb h 0 ≡ false) where
    no_knower : most t < k → (x : ℕ) → names t k h x ≡ false
    unfolding names
    no_knower l x = rw (some, handle_out t k x l, ne_eqb 0 h (λ q. eqb-false h 0 some (sym q))) refl

    -- the one word is sought twice
    by_word : k ≤ most t → {r : List ℕ} → r ≡ or_nothing (next_with t 0 (7 + k) h (7 + k) h) → r ≡ or_nothing (entry_of t k h)
    unfolding names entry_of has_both
    by_word l p =
        let n = next_of_all t (names t k h) (7 + k) h (7 + k) h (λ x. rw (some, handle_in t k x l) (and_same (eqb (word t x (7 + k)) h))) in
        rw (← n) p

pub returns-then-eq : goal.returns-then-eq
unfolding found_at
returns-then-eq c = names_none _ _ _ (no_handle _ _ _ (sym c.eq.ensures ∙ c.if-eq.true))

pub returns-then-most-k : goal.returns-then-most-k
unfolding found_at
returns-then-most-k c = names_none _ _ _ (no_knower _ _ _ (sym c.eq.ensures ∙ c.if-eq.false) (rw c.most.ensures at c.if-most-k.true))

pub overflow_add-place : goal.overflow_add-place
overflow_add-place c = omega (arith, c.most.ensures, most_high c.args.t.now)

pub returns : goal.returns
returns c =
    by_word _ _ _ (sym c.eq.ensures ∙ c.if-eq.false) (rw c.most.ensures at c.if-most-k.false) c.next_with.ensures
