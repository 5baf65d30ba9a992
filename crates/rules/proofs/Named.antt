-- A new entry granted to the knowers that a test names: just those hold it then, since each knower has one turn and a turn writes only
-- that knower's words. For every test and every knower at once. Assumes nothing.
use Rattle.std.specs.Prelude.{if◌then◌else◌}
use Prim.Native.Nat.{ℕ, zero, suc, ◌≤◌, ◌<◌}
use native.Mathlib.Omega.{arith}
use native.Mathlib.Decide.{ℕ_discrete}
use mathlib.Core.Path.{◌≡◌, refl, sym, ◌∙◌}
use mathlib.Core.Logic.{◌≢◌}
use mathlib.Core.Bool.{Bool, true, false}
use Rattle.rules.specs.Table.{Table, most, used, capacity, next_handle, handle}
use Rattle.rules.specs.Handles.{holds, grant}
use Rattle.rules.specs.SetUp.{grant_named}
use Rattle.rules.proofs.Granting.{none_holds, some_holds, holds_same, grant_handle_other}
use Rattle.rules.proofs.Shaped.{Used}
use Rattle.rules.proofs.Grows.{Grows, grows_refl, grows_trans, grows_most, grant_grows, grant_used}
use Rattle.rules.proofs.Sized.{Sized, sized_handle, sized_grows}
use Rattle.rules.proofs.Margins.{Margins, margins_refl, margins_trans, grant_margins}
use Rattle.rules.proofs.Counted.{Counted, counted_grant}

-- table s is table t after the knowers below k had their turn
pub record Given (t : Table) (named : ℕ → Bool) (e : ℕ) (s : Table) (k : ℕ) : Type 0 where
  pub grows : Grows t s
  pub margins : Margins t s
  pub same : used s ≡ used t
  pub counted : (j : ℕ) → Counted s j
  pub elsewhere : (j x : ℕ) → 1 ≤ x → x ≢ e → handle s j x ≡ handle t j x
  pub done : (j : ℕ) → j < k → holds s j e ≡ named j
  pub waiting : (j : ℕ) → k ≤ j → handle s j e ≡ 0

module _ (t : Table) (named : ℕ → Bool) (e : ℕ) (z : Sized t) (w : Used t e) where
  -- knower k's turn
  module _ (s : Table) (k : ℕ) (knower : k ≤ most t) (d : Given t named e s k) where
    sized : Sized s
    sized = sized_grows d.grows (omega (arith, d.same, z.room)) z

    uses : Used s e
    uses = record { low = w.low; high = omega (arith, d.same, w.high) }

    low : e ≤ capacity s
    low = omega (arith, sized.room, uses.high)

    gets : handle (grant s k e) k e ≡ next_handle s k
    gets = sized_handle sized k e uses (omega (arith, grows_most d.grows)) (none_holds s k e (d.waiting k (omega arith)))

    granted_holds : holds (grant s k e) k e ≡ true
    granted_holds = some_holds (grant s k e) k e (λ q. omega (arith, gets, (d.counted k).next))

    granted_other : (j : ℕ) → j ≢ k → handle (grant s k e) j e ≡ handle s j e
    granted_other j n = grant_handle_other s k e j e w.low (λ q. absurd (n q))

    granted : named k ≡ true → Given t named e (grant s k e) (suc k)
    granted q = record {
      grows = grows_trans d.grows (grant_grows s k e w.low);
      margins = margins_trans d.grows d.margins (grant_margins s k e w.low low);
      same = grant_used s k e w.low ∙ d.same;
      counted = λ j. counted_grant s k e sized uses j (d.counted j);
      elsewhere = λ j x a n. grant_handle_other s k e j x a (λ p. n) ∙ d.elsewhere j x a n;
      done = λ j l. at j l (ℕ_discrete j k);
      waiting = λ j l. granted_other j (λ p. omega arith) ∙ d.waiting j (omega arith);
    }
      where
        at : (j : ℕ) → j < suc k → Dec (j ≡ k) → holds (grant s k e) j e ≡ named j
        at j l (yes p) = rw p (granted_holds ∙ sym q)
        at j l (no p) = holds_same s (grant s k e) j e (granted_other j p) ∙ d.done j (omega arith)

    passed : named k ≡ false → Given t named e s (suc k)
    passed q = record {
      grows = d.grows;
      margins = d.margins;
      same = d.same;
      counted = d.counted;
      elsewhere = d.elsewhere;
      done = λ j l. at j l (ℕ_discrete j k);
      waiting = λ j l. d.waiting j (omega arith);
    }
      where
        at : (j : ℕ) → j < suc k → Dec (j ≡ k) → holds s j e ≡ named j
        at j l (yes p) = rw p (none_holds s k e (d.waiting k (omega arith)) ∙ sym q)
        at j l (no p) = d.done j (omega arith)

    turn : (b : Bool) → named k ≡ b → Given t named e (if b then grant s k e else s) (suc k)
    turn true q = granted q
    turn false q = passed q

  -- knowers 0 to k, nobody holding the entry before
  pub named_given : ((j : ℕ) → Counted t j) → ((j : ℕ) → handle t j e ≡ 0) → (k : ℕ) → k ≤ most t
      → Given t named e (grant_named t named e k) (suc k)
  unfolding grant_named
  named_given c n zero h = turn t 0 h start (named 0) refl
    where
      start : Given t named e t 0
      start = record {
        grows = grows_refl t;
        margins = margins_refl t;
        same = refl;
        counted = c;
        elsewhere = λ j x a m. refl;
        done = λ j l. absurd (omega arith);
        waiting = λ j l. n j;
      }
  named_given c n (suc k) h =
      turn (grant_named t named e k) (suc k) h (named_given c n k (omega arith)) (named (suc k)) refl
