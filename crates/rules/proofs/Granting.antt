-- What granting does, for every knower at once: it writes two words, the knower's handle on the entry and its next handle, if it writes
-- at all, and no other. Assumes nothing.
use Prim.Native.Nat.{ℕ, ◌+◌, ◌*◌, ◌≤◌, ◌<◌}
use native.Mathlib.Omega.{arith}
use native.Mathlib.Decide.{dec_le}
use mathlib.Core.Path.{◌≡◌, refl, sym, ◌∙◌}
use mathlib.Core.Bool.{Bool, true, false}
use lib.ListN.{get_or}
use borrow.Author.Tests.{le-leb, lt-leb, eq-eqb, ne_eqb, eqb-true, eqb-false, not-true, not-false}
use Rattle.rules.specs.Table.{Table, size, most, row_width, word, put, raised, next_handle, set_next_handle, handle, set_handle}
use Rattle.rules.specs.Handles.{holds, grant}
use Rattle.rules.proofs.Words.{size_put, most_put, put_after, word_put_same, word_put_other}

-- ---- holding, in plain facts
pub holds_some : (t : Table) (k e : ℕ) → holds t k e ≡ true → handle t k e ≡ 0 → ⊥
unfolding holds
holds_some t k e h = eqb-false (handle t k e) 0 (not-true _ h)

pub some_holds : (t : Table) (k e : ℕ) → (handle t k e ≡ 0 → ⊥) → holds t k e ≡ true
unfolding holds
some_holds t k e h = rw (ne_eqb (handle t k e) 0 h) refl

pub holds_none : (t : Table) (k e : ℕ) → holds t k e ≡ false → handle t k e ≡ 0
unfolding holds
holds_none t k e h = eqb-true (handle t k e) 0 (not-false _ h)

pub none_holds : (t : Table) (k e : ℕ) → handle t k e ≡ 0 → holds t k e ≡ false
unfolding holds
none_holds t k e h = rw (eq-eqb (handle t k e) 0 h) refl

pub holds_same : (t t' : Table) (k e : ℕ) → handle t' k e ≡ handle t k e → holds t' k e ≡ holds t k e
unfolding holds
holds_same t t' k e q = rw q refl

-- ---- the guarded words
pub handle_in : (t : Table) (k e : ℕ) → k ≤ most t → handle t k e ≡ word t e (7 + k)
unfolding handle
handle_in t k e h = rw (le-leb k (most t) h) refl

pub handle_out : (t : Table) (k e : ℕ) → most t < k → handle t k e ≡ 0
unfolding handle
handle_out t k e h = rw (lt-leb k (most t) h) refl

pub next_in : (t : Table) (k : ℕ) → k ≤ most t → next_handle t k ≡ word t 0 (5 + k)
unfolding next_handle
next_in t k h = rw (le-leb k (most t) h) refl

pub next_out : (t : Table) (k : ℕ) → most t < k → next_handle t k ≡ 1
unfolding next_handle
next_out t k h = rw (lt-leb k (most t) h) refl

-- ---- the ways that a grant goes
pub grant_held : (t : Table) (k e : ℕ) → holds t k e ≡ true → grant t k e ≡ t
unfolding grant
grant_held t k e h = rw h refl

pub grant_new : (t : Table) (k e : ℕ) → holds t k e ≡ false → k ≤ most t
    → grant t k e ≡ put (put t e (7 + k) (next_handle t k)) 0 (5 + k) (raised (next_handle t k))
unfolding grant set_handle set_next_handle
grant_new t k e h l =
    rw (h, le-leb k (most t) l, most_put t e (7 + k) (next_handle t k) (omega arith), le-leb k (most t) l) refl

pub grant_beyond : (t : Table) (k e : ℕ) → most t < k → grant t k e ≡ t
unfolding grant set_handle set_next_handle
grant_beyond t k e l = rw (none_holds t k e (handle_out t k e l), lt-leb k (most t) l, lt-leb k (most t) l) refl

-- the same, step by step
pub grant_goes : (t t₁ t₂ : Table) (k e h r : ℕ) → holds t k e ≡ false → h ≡ next_handle t k → t₁ ≡ set_handle t k e h → r ≡ raised h
    → t₂ ≡ set_next_handle t₁ k r → t₂ ≡ grant t k e
unfolding grant
grant_goes t t₁ t₂ k e h r n a b c d = d ∙ rw (c, b, a, n) refl

-- what holds of the table as it was, and of the one with the two words written, holds of the table granted
pub by_grant {ℓ} : (P : Table → Type ℓ) (t : Table) (k e : ℕ) → P t
    → (holds t k e ≡ false → k ≤ most t → P (put (put t e (7 + k) (next_handle t k)) 0 (5 + k) (raised (next_handle t k)))) → P (grant t k e)
by_grant P t k e p q = go (holds t k e) refl (dec_le k (most t))
  where
    go : (b : Bool) → holds t k e ≡ b → Dec (k ≤ most t) → P (grant t k e)
    go true h d = rw (grant_held t k e h) p
    go false h (yes l) = rw (grant_new t k e h l) (q h l)
    go false h (no l) = rw (grant_beyond t k e (omega arith)) p

-- ---- what stays
pub grant_size : (t : Table) (k e : ℕ) → size (grant t k e) ≡ size t
grant_size t k e = by_grant (λ s. size s ≡ size t) t k e refl (λ h l. size_put _ _ _ _ ∙ size_put _ _ _ _)

pub grant_most : (t : Table) (k e : ℕ) → most (grant t k e) ≡ most t
grant_most t k e =
    by_grant (λ s. most s ≡ most t) t k e refl (λ h l. most_put _ 0 (5 + k) _ (omega arith) ∙ most_put t e (7 + k) _ (omega arith))

-- every word but the two
pub grant_word : (t : Table) (k e x i : ℕ) → i < row_width t → (x ≡ e → i ≡ 7 + k → ⊥) → (x ≡ 0 → i ≡ 5 + k → ⊥)
    → word (grant t k e) x i ≡ word t x i
grant_word t k e x i small m n = by_grant (λ s. word s x i ≡ word t x i) t k e refl
    (λ h l.
    let w : most (put t e (7 + k) (next_handle t k)) ≡ most t = most_put t e (7 + k) (next_handle t k) (omega arith) in
    word_put_other (put t e (7 + k) (next_handle t k)) 0 (5 + k) (raised (next_handle t k)) (omega arith) x i (omega arith) (omega arith) n
    ∙ word_put_other t e (7 + k) (next_handle t k) (omega arith) x i (omega arith) (omega arith) m)

-- the head but the next handles: version, n, mask, capacity, used
pub grant_head : (t : Table) (k e i : ℕ) → 1 ≤ e → i < 5 → word (grant t k e) 0 i ≡ word t 0 i
grant_head t k e i real h = grant_word t k e 0 i (omega arith) (λ q. absurd (omega arith)) (λ q r. omega arith)

-- the spare words of the head
pub grant_spare : (t : Table) (k e i : ℕ) → 1 ≤ e → k ≤ most t → most t + 5 < i → i < row_width t → word (grant t k e) 0 i ≡ word t 0 i
grant_spare t k e i real l h h' = grant_word t k e 0 i h' (λ q. absurd (omega arith)) (λ q r. omega arith)

-- the words after the head's row and the entry's
pub grant_after : (t : Table) (k e i : ℕ) → row_width t ≤ i → row_width t * e + row_width t ≤ i → get_or (grant t k e) i 0 ≡ get_or t i 0
grant_after t k e i h h' = by_grant (λ s. get_or s i 0 ≡ get_or t i 0) t k e refl
    (λ n l.
    let w : most (put t e (7 + k) (next_handle t k)) ≡ most t = most_put t e (7 + k) (next_handle t k) (omega arith) in
    put_after (put t e (7 + k) (next_handle t k)) 0 (5 + k) (raised (next_handle t k)) i (omega arith)
    ∙ put_after t e (7 + k) (next_handle t k) i (omega arith))

-- what an entry is
pub grant_term : (t : Table) (k e x i : ℕ) → 1 ≤ x → i < 7 → word (grant t k e) x i ≡ word t x i
grant_term t k e x i real h = grant_word t k e x i (omega arith) (λ q r. omega arith) (λ q. absurd (omega arith))

-- another knower's handles, and the knower's own on another entry
pub grant_handle_other : (t : Table) (k e k' x : ℕ) → 1 ≤ x → (k' ≡ k → x ≡ e → ⊥) → handle (grant t k e) k' x ≡ handle t k' x
grant_handle_other t k e k' x real n = go (dec_le k' (most t))
  where
    m : most (grant t k e) ≡ most t
    m = grant_most t k e

    go : Dec (k' ≤ most t) → handle (grant t k e) k' x ≡ handle t k' x
    go (yes l) =
        handle_in (grant t k e) k' x (omega (arith, m))
        ∙ grant_word t k e x (7 + k') (omega arith) (λ q r. n (omega arith) q) (λ q. absurd (omega arith))
        ∙ sym (handle_in t k' x l)
    go (no l) = handle_out (grant t k e) k' x (omega (arith, m)) ∙ sym (handle_out t k' x (omega arith))

-- another knower's next handle
pub grant_next_other : (t : Table) (k e k' : ℕ) → 1 ≤ e → (k' ≡ k → ⊥) → next_handle (grant t k e) k' ≡ next_handle t k'
grant_next_other t k e k' real n = go (dec_le k' (most t))
  where
    m : most (grant t k e) ≡ most t
    m = grant_most t k e

    go : Dec (k' ≤ most t) → next_handle (grant t k e) k' ≡ next_handle t k'
    go (yes l) =
        next_in (grant t k e) k' (omega (arith, m))
        ∙ grant_word t k e 0 (5 + k') (omega arith) (λ q. absurd (omega arith)) (λ q r. n (omega arith))
        ∙ sym (next_in t k' l)
    go (no l) = next_out (grant t k e) k' (omega (arith, m)) ∙ sym (next_out t k' (omega arith))

-- ---- what changes, where the run has the head and the entry's row
module _ (t : Table) (k e : ℕ) (real : 1 ≤ e) (knower : k ≤ most t) (long : row_width t ≤ size t)
    (row : row_width t * e + row_width t ≤ size t) (new : holds t k e ≡ false) where
  mid : Table
  mid = put t e (7 + k) (next_handle t k)

  mid_most : most mid ≡ most t
  unfolding mid
  mid_most = most_put t e (7 + k) (next_handle t k) (omega arith)

  mid_size : size mid ≡ size t
  unfolding mid
  mid_size = size_put t e (7 + k) (next_handle t k)

  granted : grant t k e ≡ put mid 0 (5 + k) (raised (next_handle t k))
  unfolding mid
  granted = grant_new t k e new knower

  -- the handle is the knower's next
  pub grant_handle : handle (grant t k e) k e ≡ next_handle t k
  unfolding mid
  grant_handle =
      handle_in (grant t k e) k e (omega (arith, grant_most t k e))
      ∙ rw granted (word_put_other mid 0 (5 + k) (raised (next_handle t k)) (omega arith) e (7 + k) (omega (arith, mid_most)) (omega (arith, mid_most)) (λ q. absurd (omega arith))
      ∙ word_put_same t e (7 + k) (next_handle t k) (omega arith) (omega arith))

  -- and the next one is raised
  pub grant_next : next_handle (grant t k e) k ≡ raised (next_handle t k)
  grant_next =
      let z : row_width mid * 0 + (5 + k) < size mid = omega (arith, mid_most, mid_size) in
      next_in (grant t k e) k (omega (arith, grant_most t k e))
      ∙ rw granted (word_put_same mid 0 (5 + k) (raised (next_handle t k)) (omega arith) z)
