-- The table that set-up starts from: its head is written out, its rows are zeros up to the capacity, and the words past them are the
-- old ones. Nothing is used, so nobody holds anything. Assumes nothing.
use Prim.Native.Nat.{ℕ, ◌+◌, ◌*◌, ◌-◌, ◌≤◌, ◌<◌}
use native.Mathlib.Omega.{arith}
use native.Mathlib.Decide.{dec_le}
use mathlib.Core.Path.{◌≡◌, refl, ap, ◌∙◌}
use mathlib.Core.List.{List, [], ◌∷◌, ◌++◌}
use lib.ListN.{length, get_or, drop, replicate, length-append, length-replicate, length-drop, get_or-replicate}
use lib.Seq.{get_or-drop}
use Rattle.rules.specs.Choice.{count}
use Rattle.rules.specs.Table.{Table, size, this_version, most_of, most, words_for, word, next_handle}
use Rattle.rules.specs.Handles.{held}
use Rattle.rules.specs.SetUp.{new_head, empty_table}
use Rattle.rules.proofs.Words.{word_head, at_left, at_right}
use Rattle.rules.proofs.Granting.{next_in, next_out}
use Rattle.rules.proofs.Sized.{run_end, Sized}
use Rattle.rules.proofs.Counted.{Counted}

-- ---- the head
head_length : (n m c : ℕ) → length (new_head n m c) ≡ 8 + most_of this_version
unfolding new_head
head_length n m c = simp (length-append, length-replicate) (omega arith)

-- its first five words, and what follows them: a next handle for each knower, and the two spares
abbrev fields : ℕ → ℕ → ℕ → List ℕ
fields n m c = this_version ∷ n ∷ m ∷ c ∷ 0 ∷ []

abbrev following : List ℕ
following = replicate (1 + most_of this_version) 1 ++ (0 ∷ 0 ∷ [])

head_after : (n m c i : ℕ) → get_or (new_head n m c) (5 + i) 0 ≡ get_or following i 0
unfolding new_head
head_after n m c i = at_right (fields n m c) following (5 + i) 5 i refl refl

head_next : (n m c k : ℕ) → k ≤ most_of this_version → get_or (new_head n m c) (5 + k) 0 ≡ 1
head_next n m c k h =
    head_after n m c k
    ∙ at_left (replicate (1 + most_of this_version) 1) (0 ∷ 0 ∷ []) k (1 + most_of this_version) (length-replicate _ _) (omega arith)
    ∙ get_or-replicate {0} {A = ℕ} (1 + most_of this_version) k 1 0 (omega arith)

head_spare : (n m c i : ℕ) → most_of this_version + 5 < i → i < 8 + most_of this_version → get_or (new_head n m c) i 0 ≡ 0
head_spare n m c i h h' =
    let w = 1 + most_of this_version in
    ap (λ (j : ℕ). get_or (new_head n m c) j 0) (omega arith)
    ∙ head_after n m c (i - 5)
    ∙ at_right (replicate w 1) (0 ∷ 0 ∷ []) (i - 5) w (i - 5 - w) (length-replicate _ _) (omega arith)
    ∙ get_or-replicate {0} {A = ℕ} 2 (i - 5 - w) 0 0 (omega arith)

-- ---- the table, where the run is long enough
module _ (t : Table) (n m c : ℕ) (fits : words_for this_version c ≤ size t) where
  pub empty_most : most (empty_table t n m c) ≡ most_of this_version
  unfolding empty_table new_head most
  empty_most = refl

  pub empty_size : size (empty_table t n m c) ≡ size t
  unfolding empty_table words_for
  empty_size = simp (length-append, length-replicate, length-drop) (omega (arith, head_length n m c, fits))

  pub empty_word : (i : ℕ) → i < 8 + most_of this_version → word (empty_table t n m c) 0 i ≡ get_or (new_head n m c) i 0
  unfolding empty_table
  empty_word i h = word_head (empty_table t n m c) i ∙ at_left (new_head n m c) _ i (8 + most_of this_version) (head_length n m c) h

  pub empty_head : (i : ℕ) → i < 5 → word (empty_table t n m c) 0 i ≡ get_or (fields n m c) i 0
  unfolding new_head
  empty_head i h = empty_word i (omega arith) ∙ at_left (fields n m c) following i 5 refl h

  pub empty_spare : (i : ℕ) → most_of this_version + 5 < i → i < 8 + most_of this_version → word (empty_table t n m c) 0 i ≡ 0
  empty_spare i h h' = empty_word i h' ∙ head_spare n m c i h h'

  pub empty_past : (i : ℕ) → words_for this_version c ≤ i → get_or (empty_table t n m c) i 0 ≡ get_or t i 0
  unfolding empty_table words_for
  empty_past i h =
      let w = 8 + most_of this_version in
      let j = i - (w + w * c) in
      at_right (new_head n m c) (replicate (w * c) 0 ++ drop (w + w * c) t) i w (w * c + j) (head_length n m c) (omega arith)
      ∙ at_right (replicate (w * c) 0) (drop (w + w * c) t) (w * c + j) (w * c) j (length-replicate _ _) refl
      ∙ get_or-drop (w + w * c) t j 0
      ∙ ap (λ (x : ℕ). get_or t x 0) (omega arith)

  pub empty_end : run_end (empty_table t n m c) ≡ words_for this_version c
  unfolding words_for
  empty_end = rw (empty_most, empty_head 3 (omega arith)) refl

  pub empty_sized : c ≤ 512 → Sized (empty_table t n m c)
  empty_sized h = record {
    long = omega (arith, empty_end, empty_size, fits);
    room = omega (arith, empty_head 4 (omega arith));
    small = omega (arith, empty_head 3 (omega arith));
  }

  empty_next : (k : ℕ) → next_handle (empty_table t n m c) k ≡ 1
  empty_next k = go (dec_le k (most (empty_table t n m c)))
    where
      go : Dec (k ≤ most (empty_table t n m c)) → next_handle (empty_table t n m c) k ≡ 1
      go (yes l) =
          let l' : k ≤ most_of this_version = omega (arith, empty_most) in
          next_in (empty_table t n m c) k l ∙ empty_word (5 + k) (omega arith) ∙ head_next n m c k l'
      go (no l) = next_out (empty_table t n m c) k (omega arith)

  pub empty_counted : (k : ℕ) → Counted (empty_table t n m c) k
  unfolding held count
  empty_counted k = record {
    next = empty_next k ∙ rw (empty_head 4 (omega arith)) refl;
    below = λ e w. absurd (omega (arith, w.low, w.high, empty_head 4 (omega arith)));
  }
