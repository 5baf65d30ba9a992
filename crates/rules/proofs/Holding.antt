-- Who holds what from one table to a later one: a knower that is granted nothing keeps its handles and gets none, since creating gives
-- none and granting gives one knower one. For every knower at once. Assumes nothing.
use Prim.Native.Nat.{ℕ, ◌+◌, ◌*◌, ◌≤◌, ◌<◌}
use native.Mathlib.Omega.{arith}
use native.Mathlib.Decide.{dec_le, ℕ_discrete}
use mathlib.Core.Path.{◌≡◌, refl, sym, ◌∙◌}
use mathlib.Core.Logic.{◌≢◌, ◌⊎◌, inl, inr}
use mathlib.Core.Bool.{true, not}
use mathlib.Core.List.{List, [], ◌∷◌, Memᴰ}
use lib.Dec.{eqb}
use lib.ListN.{length}
use borrow.Author.Tests.{eqb-true, eqb-false, not-true}
use Rattle.rules.specs.Choice.{lowest}
use Rattle.rules.specs.Table.{Table, size, row_width, largest, used, next_handle, handle}
use Rattle.rules.specs.Terms.{new_entry, add_entry}
use Rattle.rules.specs.Handles.{grant, grant_each, names, entry_of, holds_handle}
use Rattle.rules.proofs.Logic.{and_left, and_right}
use Rattle.rules.proofs.Walks.{Lowest, nowhere, somewhere, lowest_is}
use Rattle.rules.proofs.Granting.{grant_handle_other, grant_next_other}
use Rattle.rules.proofs.Creating.{new_idle, create_handle, create_handle_other, create_next}
use Rattle.rules.proofs.Shaped.{Used}
use Rattle.rules.proofs.Grows.{Grows, grows_refl, grows_trans, grant_grows, grant_used, add_used}

-- knower k holds the used entry e
pub record Holds (t : Table) (k e : ℕ) : Type 0 where
  pub uses : Used t e
  pub some : handle t k e ≢ 0

-- knower k got nothing
pub record Untouched (k : ℕ) (t t' : Table) : Type 0 where
  pub old : (e : ℕ) → Used t e → handle t' k e ≡ handle t k e
  pub fresh : (e : ℕ) → used t < e → e ≤ used t' → handle t' k e ≡ 0
  pub counter : next_handle t' k ≡ next_handle t k

pub untouched_refl : (k : ℕ) (t : Table) → Untouched k t t
untouched_refl k t = record { old = λ e u. refl; fresh = λ e a b. absurd (omega arith); counter = refl }

pub untouched_trans : {k : ℕ} {a b c : Table} → Grows a b → Untouched k a b → Untouched k b c → Untouched k a c
untouched_trans {k} {a} {b} {c} g u v = record {
  old = λ e w. v.old e (record { low = w.low; high = omega (arith, g.more, w.high) }) ∙ u.old e w;
  fresh = λ e h i. go e h i (dec_le e (used b));
  counter = v.counter ∙ u.counter;
}
  where
    go : (e : ℕ) → used a < e → e ≤ used c → Dec (e ≤ used b) → handle c k e ≡ 0
    go e h i (yes j) = v.old e (record { low = omega arith; high = j }) ∙ u.fresh e h j
    go e h i (no j) = v.fresh e (omega arith) i

-- what an untouched knower holds, it held
pub untouched_holds : {k : ℕ} {t t' : Table} → Untouched k t t' → (e : ℕ) → Holds t' k e → Holds t k e
untouched_holds {k} {t} {t'} u e h = go (dec_le e (used t))
  where
    go : Dec (e ≤ used t) → Holds t k e
    go (yes j) =
        let w : Used t e = record { low = h.uses.low; high = j } in
        record { uses = w; some = λ z. h.some (u.old e w ∙ z) }
    go (no j) = absurd (h.some (u.fresh e (omega arith) h.uses.high))

-- ---- granting
pub grant_untouched : (t : Table) (k j e : ℕ) → 1 ≤ e → j ≢ k → Untouched j t (grant t k e)
grant_untouched t k j e real n = record {
  old = λ x w. grant_handle_other t k e j x w.low (λ q. absurd (n q));
  fresh = λ x a b. absurd (omega (arith, grant_used t k e real));
  counter = grant_next_other t k e j real n;
}

-- the knower that is granted an entry holds no other entry more
pub grant_holds : (t : Table) (k e : ℕ) → 1 ≤ e → (x : ℕ) → Holds (grant t k e) k x → Holds t k x ⊎ (x ≡ e)
grant_holds t k e real x h = go (ℕ_discrete x e)
  where
    go : Dec (x ≡ e) → Holds t k x ⊎ (x ≡ e)
    go (yes q) = inr q
    go (no q) = inl (record {
      uses = record { low = h.uses.low; high = omega (arith, h.uses.high, grant_used t k e real) };
      some = λ z. h.some (grant_handle_other t k e k x h.uses.low (λ p. q) ∙ z);
    })

-- ---- a row of grants
pub each_grows : (t : Table) (k : ℕ) (es : List ℕ) → ((x : ℕ) → Memᴰ x es → 1 ≤ x) → Grows t (grant_each t k es)
unfolding grant_each
each_grows t k [] real = grows_refl t
each_grows t k (e ∷ es) real =
    grows_trans (grant_grows t k e (real e (Memᴰ.head refl))) (each_grows (grant t k e) k es (λ x i. real x (Memᴰ.tail i)))

pub each_used : (t : Table) (k : ℕ) (es : List ℕ) → ((x : ℕ) → Memᴰ x es → 1 ≤ x) → used (grant_each t k es) ≡ used t
unfolding grant_each
each_used t k [] real = refl
each_used t k (e ∷ es) real =
    each_used (grant t k e) k es (λ x i. real x (Memᴰ.tail i)) ∙ grant_used t k e (real e (Memᴰ.head refl))

pub each_untouched : (t : Table) (k j : ℕ) (es : List ℕ) → ((x : ℕ) → Memᴰ x es → 1 ≤ x) → j ≢ k → Untouched j t (grant_each t k es)
unfolding grant_each
each_untouched t k j [] real n = untouched_refl j t
each_untouched t k j (e ∷ es) real n =
    untouched_trans (grant_grows t k e (real e (Memᴰ.head refl))) (grant_untouched t k j e (real e (Memᴰ.head refl)) n)
    (each_untouched (grant t k e) k j es (λ x i. real x (Memᴰ.tail i)) n)

pub each_holds : (t : Table) (k : ℕ) (es : List ℕ) → ((x : ℕ) → Memᴰ x es → 1 ≤ x) → (x : ℕ) → Holds (grant_each t k es) k x
    → Holds t k x ⊎ Memᴰ x es
unfolding grant_each
each_holds t k [] real x h = inl h
each_holds t k (e ∷ es) real x h = go (each_holds (grant t k e) k es (λ y i. real y (Memᴰ.tail i)) x h)
  where
    last : Holds t k x ⊎ (x ≡ e) → Holds t k x ⊎ Memᴰ x (e ∷ es)
    last (inl i) = inl i
    last (inr q) = inr (Memᴰ.head q)

    go : Holds (grant t k e) k x ⊎ Memᴰ x es → Holds t k x ⊎ Memᴰ x (e ∷ es)
    go (inl i) = last (grant_holds t k e (real e (Memᴰ.head refl)) x i)
    go (inr i) = inr (Memᴰ.tail i)

-- ---- creating
module _ (t : Table) (ns : List ℕ) (seven : length ns ≡ 7) (fits : used t < largest) (long : row_width t ≤ size t)
    (row : row_width t * new_entry t + row_width t ≤ size t) where
  pub add_untouched : (k : ℕ) → Untouched k t (add_entry t ns)
  add_untouched k = record {
    old = λ e w. create_handle_other t ns seven row k e w.low (λ q. omega (arith, w.high, new_idle t fits));
    fresh = λ e a b.
        let q : e ≡ new_entry t = omega (arith, add_used t ns seven fits long row, new_idle t fits) in
        rw q (create_handle t ns seven row k);
    counter = create_next t ns seven row k;
  }

-- ---- a handle that a knower holds names an entry that it holds
pub handle_held : (t : Table) (k h : ℕ) → holds_handle t k h ≡ true → Holds t k (entry_of t k h)
unfolding holds_handle entry_of names
handle_held t k h p = go (lowest (names t k h) (used t)) (lowest_is (names t k h) (used t)) (eqb-false _ 0 (not-true _ p))
  where
    go : (e : ℕ) → Lowest (names t k h) (used t) e → e ≢ 0 → Holds t k e
    go e (nowhere z n) d = absurd (d z)
    go e (somewhere a b q m) d = record {
      uses = record { low = a; high = b };
      some = λ z. eqb-false h 0 (not-true _ (and_left _ _ q)) (sym (eqb-true (handle t k e) h (and_right (not (eqb h 0)) _ q)) ∙ z);
    }
