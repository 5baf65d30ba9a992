-- Every knower's handles are given in order: its next handle is one more than the number of entries that it holds, and its handles lie
-- below it. A grant raises both by one, and who is granted nothing keeps both. Assumes nothing.
use Prim.Native.Nat.{ℕ, ◌+◌, ◌≤◌, ◌<◌}
use native.Mathlib.Omega.{arith}
use native.Mathlib.Decide.{dec_le, ℕ_discrete}
use mathlib.Core.Path.{◌≡◌, refl, sym, ap, ◌∙◌}
use mathlib.Core.Logic.{◌≢◌}
use mathlib.Core.Bool.{Bool, true, false}
use Rattle.rules.specs.Table.{Table, most, used, next_handle, handle}
use Rattle.rules.specs.Handles.{holds, held, grant}
use Rattle.rules.proofs.Walks.{count_le, count_stop, count_same, count_more}
use Rattle.rules.proofs.Granting.{none_holds, some_holds, holds_same, grant_held, grant_beyond, grant_handle_other, grant_next}
use Rattle.rules.proofs.Creating.{raised_idle}
use Rattle.rules.proofs.Shaped.{Used}
use Rattle.rules.proofs.Grows.{Grows, grant_grows, grant_used}
use Rattle.rules.proofs.Holding.{Untouched, grant_untouched}
use Rattle.rules.proofs.Sized.{Sized, sized_row, sized_head, sized_low, sized_handle}

pub record Counted (t : Table) (k : ℕ) : Type 0 where
  pub next : next_handle t k ≡ 1 + held t k
  pub below : (e : ℕ) → Used t e → handle t k e < next_handle t k

-- ---- who is granted nothing
pub untouched_held : {k : ℕ} {t t' : Table} → Grows t t' → Untouched k t t' → held t' k ≡ held t k
unfolding held
untouched_held {k} {t} {t'} g u =
    count_stop (holds t' k) (used t) (used t') g.more (λ e a b. none_holds t' k e (u.fresh e a b))
    ∙ count_same (holds t' k) (holds t k) (used t) (λ e a b. holds_same t t' k e (u.old e (record { low = a; high = b })))

pub counted_untouched : {k : ℕ} {t t' : Table} → Grows t t' → Untouched k t t' → Counted t k → Counted t' k
counted_untouched {k} {t} {t'} g u c = record {
  next = u.counter ∙ c.next ∙ ap (λ (x : ℕ). 1 + x) (sym (untouched_held g u));
  below = λ e w. go e w (dec_le e (used t));
}
  where
    go : (e : ℕ) → Used t' e → Dec (e ≤ used t) → handle t' k e < next_handle t' k
    go e w (yes l) =
        let v : Used t e = record { low = w.low; high = l } in
        omega (arith, u.old e v, c.below e v, u.counter)
    go e w (no l) = omega (arith, u.fresh e (omega arith) w.high, u.counter, c.next)

-- ---- the knower that is granted an entry
module _ (t : Table) (k e : ℕ) (z : Sized t) (w : Used t e) (knower : k ≤ most t) (c : Counted t k) (new : holds t k e ≡ false) where
  same : used (grant t k e) ≡ used t
  same = grant_used t k e w.low

  gets : handle (grant t k e) k e ≡ next_handle t k
  gets = sized_handle z k e w knower new

  raises : next_handle (grant t k e) k ≡ next_handle t k + 1
  unfolding held
  raises =
      grant_next t k e w.low knower (sized_head z) (sized_row z e (omega (arith, z.room, w.high))) new
      ∙ raised_idle (next_handle t k) (omega (arith, c.next, count_le (holds t k) (used t), sized_low z))

  keeps : (x : ℕ) → 1 ≤ x → x ≢ e → handle (grant t k e) k x ≡ handle t k x
  keeps x a n = grant_handle_other t k e k x a (λ q. n)

  pub holds_more : held (grant t k e) k ≡ held t k + 1
  unfolding held
  holds_more = rw same
      (count_more (holds t k) (holds (grant t k e) k) (used t) e w.low w.high new
      (some_holds (grant t k e) k e (λ q. omega (arith, gets, c.next)))
      (λ x a b n. sym (holds_same t (grant t k e) k x (keeps x a n))))

  counted_new : Counted (grant t k e) k
  counted_new = record { next = omega (arith, raises, holds_more, c.next); below = λ x v. go x v (ℕ_discrete x e) }
    where
      go : (x : ℕ) → Used (grant t k e) x → Dec (x ≡ e) → handle (grant t k e) k x < next_handle (grant t k e) k
      go x v (yes q) = rw q (omega (arith, gets, raises))
      go x v (no q) =
          let v' : Used t x = record { low = v.low; high = omega (arith, same, v.high) } in
          omega (arith, keeps x v.low q, raises, c.below x v')

-- ---- a grant keeps it for every knower j
pub counted_grant : (t : Table) (k e : ℕ) → Sized t → Used t e → (j : ℕ) → Counted t j → Counted (grant t k e) j
counted_grant t k e z w j c = go (ℕ_discrete j k)
  where
    own : (b : Bool) → holds t k e ≡ b → Dec (k ≤ most t) → Counted t k → Counted (grant t k e) k
    own true h d i = rw (grant_held t k e h) i
    own false h (yes l) i = counted_new t k e z w l i h
    own false h (no l) i = rw (grant_beyond t k e (omega arith)) i

    go : Dec (j ≡ k) → Counted (grant t k e) j
    go (yes q) = rw q (own (holds t k e) refl (dec_le k (most t)) (rw q at c))
    go (no q) = counted_untouched (grant_grows t k e w.low) (grant_untouched t k j e w.low q) c
