-- The stores that make an empty table: each knower's next handle, and the head on a run of zeros. Assumes nothing.
use Prim.Native.Nat.{ℕ, ◌+◌, ◌*◌}
use native.Mathlib.Omega.{arith}
use mathlib.Core.Path.{◌≡◌, refl, ◌∙◌}
use mathlib.Core.List.{[], ◌∷◌, ◌++◌, append_assoc}
use lib.ListN.{drop, replicate, length-replicate, replicate-append-replicate}
use lib.Seq.{sets}
use Rattle.rules.specs.Table.{Table, this_version, most_of, words_for, put}
use Rattle.rules.specs.SetUp.{new_head, empty_table}
use Rattle.rules.proofs.Stores.{sets_append}
use Rattle.rules.proofs.Words.{put_head}
use Rattle.set_up.proofs.Words.{new_most_high}

-- one handle more, and the last one
pub handle_more : (t s s' : Table) (k : ℕ) → s ≡ sets t 5 (replicate k 1) → s' ≡ put s 0 (5 + k) 1 → s' ≡ sets t 5 (replicate (k + 1) 1)
handle_more t s s' k q h =
    h ∙ put_head s (5 + k) 1
    ∙ rw (q, ← replicate-append-replicate {0} {A = ℕ} k 1 1) (rw length-replicate at (sets_append t 5 (replicate k 1) (1 ∷ [])))

pub last_handle : (t s s' : Table) (k : ℕ) → k ≡ most_of this_version → s ≡ sets t 5 (replicate k 1) → s' ≡ put s 0 (5 + k) 1
    → s' ≡ sets t 5 (replicate (1 + most_of this_version) 1)
last_handle t s s' k e q h =
    let more : k + 1 ≡ 1 + most_of this_version = omega arith in
    rw more at (handle_more t s s' k q h)

pub ruleset turns = (handle_more, last_handle, new_most_high)

-- the head written to a cleared run
module _ (t : Table) (n m c : ℕ) where
  zeros : replicate (words_for this_version c) 0 ++ drop (words_for this_version c) t
      ≡ replicate (8 + most_of this_version) 0 ++ (replicate ((8 + most_of this_version) * c) 0 ++ drop (words_for this_version c) t)
  unfolding words_for
  zeros =
      rw (← replicate-append-replicate {0} {A = ℕ} (8 + most_of this_version) ((8 + most_of this_version) * c) 0, append_assoc) refl

  pub head_on_zeros : (s : Table) → s ≡ replicate (words_for this_version c) 0 ++ drop (words_for this_version c) t
      → sets (sets s 0 (this_version ∷ n ∷ m ∷ c ∷ [])) 5 (replicate (1 + most_of this_version) 1) ≡ empty_table t n m c
  unfolding empty_table new_head this_version most_of
  head_on_zeros s q = rw (q, zeros) refl

-- the stores in their order
pub emptied : (t s₀ s₁ s₂ s₃ s₄ s₅ : Table) (n m c : ℕ) → s₀ ≡ replicate (words_for this_version c) 0 ++ drop (words_for this_version c) t
    → s₁ ≡ put s₀ 0 0 this_version → s₂ ≡ put s₁ 0 1 n → s₃ ≡ put s₂ 0 2 m → s₄ ≡ put s₃ 0 3 c
    → s₅ ≡ sets s₄ 5 (replicate (1 + most_of this_version) 1) → s₅ ≡ empty_table t n m c
emptied t s₀ s₁ s₂ s₃ s₄ s₅ n m c q₀ q₁ q₂ q₃ q₄ q₅ =
    let h : s₄ ≡ sets s₀ 0 (this_version ∷ n ∷ m ∷ c ∷ []) =
    q₄ ∙ put_head s₃ 3 c ∙ rw (q₃, put_head s₂ 2 m, q₂, put_head s₁ 1 n, q₁, put_head s₀ 0 this_version) refl in
    q₅ ∙ rw h (head_on_zeros t n m c s₀ q₀)
