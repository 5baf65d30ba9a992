-- The walks over 1 to n, one step further and at each number: each law is an induction on n. Assumes nothing.
use Rattle.std.specs.Prelude.{if◌then◌else◌}
use Prim.Native.Nat.{ℕ, zero, suc, ◌+◌, ◌<◌, ◌≤◌}
use native.Mathlib.Numerals.{add-one}
use native.Mathlib.Omega.{arith}
use native.Mathlib.Decide.{dec_le, dec_lt, ℕ_discrete}
use mathlib.Core.Path.{◌≡◌, refl, sym, ap, ◌∙◌}
use mathlib.Core.Bool.{Bool, true, false}
use lib.Dec.{eqb}
use borrow.Author.Tests.{eq-eqb, ne_eqb}
use Rattle.rules.specs.Choice.{◌and◌, all, count, lowest}
use Rattle.rules.proofs.Logic.{and_left, and_right, both, never, fails}

-- e is one of 1 to n + 1: one of 1 to n, or the last
last_or {ℓ} : {A : Type ℓ} (n e : ℕ) → e ≤ suc n → (e ≤ n → A) → (e ≡ suc n → A) → A
last_or {A = A} n e h f g = go (dec_le e n)
  where
    go : Dec (e ≤ n) → A
    go (yes l) = f l
    go (no l) = g (omega arith)

module _ (f : ℕ → Bool) where
  -- ---- all
  pub all_next : (n : ℕ) → all f (n + 1) ≡ all f n and f (n + 1)
  unfolding all
  all_next n = rw add-one refl

  pub all_at : (n : ℕ) → all f n ≡ true → (e : ℕ) → 1 ≤ e → e ≤ n → f e ≡ true
  unfolding all
  all_at zero h e a b = absurd (omega arith)
  all_at (suc n) h e a b =
      last_or n e b (all_at n (and_left (all f n) (f (suc n)) h) e a) (λ q. ap f q ∙ and_right (all f n) (f (suc n)) h)

  pub all_from : (n : ℕ) → ((e : ℕ) → 1 ≤ e → e ≤ n → f e ≡ true) → all f n ≡ true
  unfolding all
  all_from zero h = refl
  all_from (suc n) h = both (all_from n (λ e a b. h e a (omega arith))) (h (suc n) (omega arith) (omega arith))

  pub all_fails : (n e : ℕ) → 1 ≤ e → e ≤ n → f e ≡ false → all f n ≡ false
  all_fails n e a b q = fails (all f n) (λ h. never (all_at n h e a b) q)

  -- ---- count
  pub count_next : (n : ℕ) → count f (n + 1) ≡ count f n + (if f (n + 1) then 1 else 0)
  unfolding count
  count_next n = rw add-one refl

  pub count_le : (n : ℕ) → count f n ≤ n
  unfolding count
  count_le zero = omega arith
  count_le (suc n) = go (f (suc n)) (count_le n)
    where
      go : (b : Bool) → count f n ≤ n → count f n + (if b then 1 else 0) ≤ suc n
      go true h = omega arith
      go false h = omega arith

  -- no number after n passes
  pub count_stop : (n m : ℕ) → n ≤ m → ((e : ℕ) → n < e → e ≤ m → f e ≡ false) → count f m ≡ count f n
  unfolding count
  count_stop n zero l h = let q : n ≡ 0 = omega arith in rw q refl
  count_stop n (suc m) l h = last_or m n l
      (λ i. rw (h (suc m) (omega arith) (omega arith), count_stop n m i (λ e a b. h e a (omega arith))) (omega arith))
      (λ q. rw q refl)

  -- ---- lowest
  -- what the lowest number of 1 to n is, 0 where there is none
  pub data Lowest (n r : ℕ) : Type 0 where
    nowhere : r ≡ 0 → ((e : ℕ) → 1 ≤ e → e ≤ n → f e ≡ false) → Lowest n r
    somewhere : 1 ≤ r → r ≤ n → f r ≡ true → ((e : ℕ) → 1 ≤ e → e < r → f e ≡ false) → Lowest n r

  pub lowest_skip : (n : ℕ) → lowest f n ≡ 0 → f (n + 1) ≡ false → lowest f (n + 1) ≡ 0
  unfolding lowest
  lowest_skip n p q = rw add-one (simp (p, rw add-one at q))

  pub lowest_is : (n : ℕ) → Lowest n (lowest f n)
  unfolding lowest
  lowest_is zero = nowhere refl (λ e a b. absurd (omega arith))
  lowest_is (suc n) = go (f (suc n)) refl (lowest f n) (lowest_is n)
    where
      go : (b : Bool) → f (suc n) ≡ b → (r : ℕ) → Lowest n r → Lowest (suc n) (if eqb r 0 then (if b then suc n else 0) else r)
      go true q r (nowhere z h) = rw (eq-eqb r 0 z) (somewhere (omega arith) (omega arith) q (λ e a b. h e a (omega arith)))
      go false q r (nowhere z h) = rw (eq-eqb r 0 z) (nowhere refl (λ e a b. last_or n e b (h e a) (λ p. ap f p ∙ q)))
      go true q r (somewhere a c p m) = rw (ne_eqb r 0 (λ z. omega arith)) (somewhere a (omega arith) p m)
      go false q r (somewhere a c p m) = rw (ne_eqb r 0 (λ z. omega arith)) (somewhere a (omega arith) p m)

  -- what is found is one of the numbers, and passes
  pub lowest_found_at : (n : ℕ) → (lowest f n ≡ 0 → ⊥) → (1 ≤ lowest f n) × (lowest f n ≤ n) × (f (lowest f n) ≡ true)
  lowest_found_at n h = go (lowest f n) (lowest_is n) h
    where
      go : (x : ℕ) → Lowest n x → (x ≡ 0 → ⊥) → (1 ≤ x) × (x ≤ n) × (f x ≡ true)
      go x (nowhere z m) h = absurd (h z)
      go x (somewhere a b p m) h = (a, b, p)

  -- a number that passes, all below it not passing, is the lowest
  pub lowest_first : (n r : ℕ) → 1 ≤ r → r ≤ n → f r ≡ true → ((e : ℕ) → 1 ≤ e → e < r → f e ≡ false) → lowest f n ≡ r
  lowest_first n r a b p m = go (lowest f n) (lowest_is n)
    where
      go : (x : ℕ) → Lowest n x → x ≡ r
      go x (nowhere z h) = never p (h r a b)
      go x (somewhere i j q k) = order (dec_lt x r) (dec_lt r x)
        where
          order : Dec (x < r) → Dec (r < x) → x ≡ r
          order (yes l) d = never q (m x i l)
          order (no l) (yes l') = never p (k r a l')
          order (no l) (no l') = omega arith

  -- none up to m, and one at m + 1: it is the lowest of all
  pub lowest_found : (n m : ℕ) → m + 1 ≤ n → lowest f m ≡ 0 → f (m + 1) ≡ true → lowest f n ≡ m + 1
  lowest_found n m l z p = go (lowest f m) (lowest_is m) z
    where
      go : (x : ℕ) → Lowest m x → x ≡ 0 → lowest f n ≡ m + 1
      go x (nowhere q h) e = lowest_first n (m + 1) (omega arith) l p (λ e a b. h e a (omega arith))
      go x (somewhere i j q k) e = absurd (omega arith)

-- ---- walks by tests that agree
module _ (f g : ℕ → Bool) where
  pub all_same : (n : ℕ) → ((e : ℕ) → 1 ≤ e → e ≤ n → f e ≡ g e) → all f n ≡ all g n
  unfolding all
  all_same zero h = refl
  all_same (suc n) h = rw (all_same n (λ e a b. h e a (omega arith)), h (suc n) (omega arith) (omega arith)) refl

  pub count_same : (n : ℕ) → ((e : ℕ) → 1 ≤ e → e ≤ n → f e ≡ g e) → count f n ≡ count g n
  unfolding count
  count_same zero h = refl
  count_same (suc n) h = rw (count_same n (λ e a b. h e a (omega arith)), h (suc n) (omega arith) (omega arith)) refl

  pub lowest_same : (n : ℕ) → ((e : ℕ) → 1 ≤ e → e ≤ n → f e ≡ g e) → lowest f n ≡ lowest g n
  unfolding lowest
  lowest_same zero h = refl
  lowest_same (suc n) h = rw (lowest_same n (λ e a b. h e a (omega arith)), h (suc n) (omega arith) (omega arith)) refl

  -- one number more passes the second test than the first, within 1 to n
  pub count_more : (n i : ℕ) → 1 ≤ i → i ≤ n → f i ≡ false → g i ≡ true → ((e : ℕ) → 1 ≤ e → e ≤ n → (e ≡ i → ⊥) → f e ≡ g e) → count g n ≡ count f n + 1
  unfolding count
  count_more zero i a b p q h = absurd (omega arith)
  count_more (suc n) i a b p q h = go (ℕ_discrete i (suc n)) (count_more n i a)
    where
      go : Dec (i ≡ suc n)
          → (i ≤ n → f i ≡ false → g i ≡ true → ((e : ℕ) → 1 ≤ e → e ≤ n → (e ≡ i → ⊥) → f e ≡ g e) → count g n ≡ count f n + 1)
          → count g n + (if g (suc n) then 1 else 0) ≡ count f n + (if f (suc n) then 1 else 0) + 1
      go (yes z) r =
          rw (sym (ap f z) ∙ p, sym (ap g z) ∙ q, sym (count_same n (λ e c d. h e c (omega arith) (λ w. omega arith)))) (omega arith)
      go (no z) r =
          rw (r (omega arith) p q (λ e c d. h e c (omega arith)), sym (h (suc n) (omega arith) (omega arith) (λ w. z (sym w)))) (omega arith)
