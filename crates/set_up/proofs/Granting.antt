-- A loop over the knowers from 0 on grants what the rule grants; where the rule names one knower alone, one grant does. Assumes nothing.
use Rattle.std.specs.Prelude.{if◌then◌else◌}
use Prim.Native.Nat.{ℕ, zero, suc, ◌+◌, ◌≤◌, ◌<◌}
use native.Mathlib.Numerals.{add-one}
use native.Mathlib.Omega.{arith}
use native.Mathlib.Decide.{dec_le, ℕ_discrete}
use mathlib.Core.Path.{◌≡◌, refl, sym, ◌∙◌}
use mathlib.Core.Bool.{Bool, true, false}
use lib.Dec.{eqb}
use borrow.Author.Tests.{eq-eqb, ne_eqb}
use Rattle.rules.specs.Table.{Table, most, in_mask}
use Rattle.rules.specs.Handles.{grant}
use Rattle.rules.specs.SetUp.{holds_secret_key, grant_named}
use Rattle.rules.proofs.Granting.{grant_beyond}
use Rattle.set_up.specs.Holder.{secret_holder}

-- ---- the loop
-- entry e is granted to those of the knowers below k that the test names
unfoldable pub granted_below : Table → (ℕ → Bool) → ℕ → ℕ → Table
granted_below t named e zero = t
granted_below t named e (suc k) =
    let s = granted_below t named e k in
    if named k then grant s k e else s

module _ (t : Table) (named : ℕ → Bool) (e : ℕ) where
  pub below_none : t ≡ granted_below t named e 0
  unfolding granted_below
  below_none = refl

  module _ (s : Table) (k : ℕ) (done : s ≡ granted_below t named e k) where
    pub below_granted : (s' : Table) → named k ≡ true → s' ≡ grant s k e → s' ≡ granted_below t named e (k + 1)
    unfolding granted_below
    below_granted s' h q = q ∙ rw (done, add-one k, h) refl

    pub below_passed : named k ≡ false → s ≡ granted_below t named e (k + 1)
    unfolding granted_below
    below_passed h = done ∙ rw (add-one k, h) refl

  -- the rule's walk begins with knower 0
  below_named : (k : ℕ) → granted_below t named e (k + 1) ≡ grant_named t named e k
  unfolding granted_below grant_named
  below_named zero = refl
  below_named (suc k) = rw (← below_named k, add-one (suc k), add-one k) refl

  -- the highest knower
  module _ (s : Table) (k : ℕ) (last : k ≡ most t) (done : s ≡ granted_below t named e k) where
    pub last_granted : (s' : Table) → named k ≡ true → s' ≡ grant s k e → s' ≡ grant_named t named e (most t)
    last_granted s' h q = rw (← last, ← below_named k) (below_granted s k done s' h q)

    pub last_passed : named k ≡ false → s ≡ grant_named t named e (most t)
    last_passed h = rw (← last, ← below_named k) (below_passed s k done h)

-- each turn of the loop
pub ruleset turns = (below_none, below_granted, below_passed, last_granted, last_passed)

-- ---- one knower alone
module _ (t : Table) (named : ℕ → Bool) (e o : ℕ) (alone : (k : ℕ) → named k ≡ eqb k o) where
  names : (k : ℕ) → k ≡ o → named k ≡ true
  names k q = alone k ∙ eq-eqb k o q

  passes : (k : ℕ) → (k ≡ o → ⊥) → named k ≡ false
  passes k n = alone k ∙ ne_eqb k o n

  -- until its turn
  before_it : (k : ℕ) → k < o → grant_named t named e k ≡ t
  unfolding grant_named
  before_it zero h = rw (passes 0 (λ q. omega arith)) refl
  before_it (suc k) h = rw (passes (suc k) (λ q. omega arith)) (before_it k (omega arith))

  -- from its turn on
  after_it : (k : ℕ) → o ≤ k → grant_named t named e k ≡ grant t o e
  unfolding grant_named
  after_it zero h = let q : 0 ≡ o = omega arith in rw (names 0 q, q) refl
  after_it (suc k) h = go (ℕ_discrete (suc k) o) (λ l. after_it k l)
    where
      go : Dec (suc k ≡ o) → (o ≤ k → grant_named t named e k ≡ grant t o e)
          → (if named (suc k) then grant (grant_named t named e k) (suc k) e else grant_named t named e k) ≡ grant t o e
      go (yes q) r = rw (names (suc k) q, before_it k (omega arith), q) refl
      go (no q) r = rw (passes (suc k) q) (r (omega arith))

  sole_granted : grant_named t named e (most t) ≡ grant t o e
  sole_granted = go (dec_le o (most t))
    where
      go : Dec (o ≤ most t) → grant_named t named e (most t) ≡ grant t o e
      go (yes l) = after_it (most t) l
      go (no l) = before_it (most t) (omega arith) ∙ sym (grant_beyond t o e (omega arith))

sole_holder : (m p k : ℕ) → holds_secret_key m p k ≡ eqb k (secret_holder m p)
unfolding holds_secret_key secret_holder
sole_holder m p k = go (in_mask m p)
  where
    go : (b : Bool) → (if b then eqb k p else eqb k 0) ≡ eqb k (if b then p else 0)
    go true = refl
    go false = refl

pub secret_granted : (t : Table) (m p e : ℕ) → grant_named t (holds_secret_key m p) e (most t) ≡ grant t (secret_holder m p) e
secret_granted t m p e = sole_granted t (holds_secret_key m p) e (secret_holder m p) (sole_holder m p)
