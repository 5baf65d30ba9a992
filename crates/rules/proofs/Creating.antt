-- What creating does, for every knower at once: it writes the new entry's row, which nobody holds, and the number of used entries, and
-- no other word. Assumes nothing.
use Rattle.std.specs.Prelude.{if◌then◌else◌}
use Prim.Native.Nat.{ℕ, ◌+◌, ◌*◌, ◌≤◌, ◌<◌}
use native.Mathlib.Omega.{arith}
use native.Mathlib.Decide.{dec_lt, dec_le}
use mathlib.Core.Path.{◌≡◌, refl, sym, ◌∙◌}
use mathlib.Core.Logic.{◌≢◌}
use mathlib.Core.List.{List, [], ◌∷◌, ◌++◌}
use lib.ListN.{length, get_or, take, replicate, length-append, length-replicate, get_or-replicate, get_or-append}
use lib.Seq.{get_or-append-add}
use lib.Dec.{ltb}
use borrow.Author.Tests.{lt-ltb, le-ltb}
use Rattle.rules.specs.Table.{Table, size, most, row_width, word, put, with_row, largest, raised, used, next_handle, handle}
use Rattle.rules.specs.Terms.{Term, type_of, arguments_of, numbers_of, new_entry, add_entry}
use Rattle.rules.proofs.Words.{most_row, size_row, word_row_same, word_row_other, row_after, most_put, put_after, size_put, word_put_same, word_put_other}
use Rattle.rules.proofs.Granting.{handle_in, handle_out, next_in, next_out}

-- ---- the guard of a word's largest number
pub raised_idle : (n : ℕ) → n < largest → raised n ≡ n + 1
unfolding raised
raised_idle n h = rw (lt-ltb n largest h) refl

pub raised_some : (n : ℕ) → 1 ≤ raised n
unfolding raised largest
raised_some n = go (dec_lt n 65535)
  where
    go : Dec (n < 65535) → 1 ≤ (if ltb n 65535 then n + 1 else n)
    go (yes l) = rw (lt-ltb n 65535 l) (omega arith)
    go (no l) = rw (le-ltb n 65535 (omega arith)) (omega arith)

pub new_real : (t : Table) → 1 ≤ new_entry t
unfolding new_entry
new_real t = raised_some (used t)

pub new_idle : (t : Table) → used t < largest → new_entry t ≡ used t + 1
unfolding new_entry
new_idle t h = raised_idle (used t) h

-- ---- a new entry of seven numbers, where the run has its row
module _ (t : Table) (ns : List ℕ) (seven : length ns ≡ 7) (row : row_width t * new_entry t + row_width t ≤ size t) where
  filled : List ℕ
  filled = ns ++ replicate (1 + most t) 0

  filled_length : length filled ≡ row_width t
  unfolding filled
  filled_length = length-append ns (replicate (1 + most t) 0) ∙ rw (seven, length-replicate {0} {A = ℕ} (1 + most t) 0) (omega arith)

  mid : Table
  mid = with_row t (new_entry t) filled

  mid_most : most mid ≡ most t
  unfolding mid
  mid_most = most_row t (new_entry t) filled (new_real t) filled_length row

  added : add_entry t ns ≡ put mid 0 4 (new_entry t)
  unfolding add_entry mid filled
  added = refl

  pub create_size : size (add_entry t ns) ≡ size t
  unfolding mid
  create_size = rw added (size_put mid 0 4 (new_entry t) ∙ size_row t (new_entry t) filled (new_real t) filled_length row)

  pub create_most : most (add_entry t ns) ≡ most t
  create_most = rw added (most_put mid 0 4 (new_entry t) (omega arith) ∙ mid_most)

  -- every word but the new row's and the number of used entries
  pub create_word : (x i : ℕ) → i < row_width t → x ≢ new_entry t → (x ≡ 0 → i ≡ 4 → ⊥) → word (add_entry t ns) x i ≡ word t x i
  unfolding mid
  create_word x i h n m =
      rw added
      (word_put_other mid 0 4 (new_entry t) (omega arith) x i (omega (arith, mid_most)) (omega (arith, mid_most)) m
      ∙ word_row_other t (new_entry t) filled (new_real t) filled_length row x i h n)

  -- the new row
  row_word : (i : ℕ) → i < row_width t → word (add_entry t ns) (new_entry t) i ≡ get_or filled i 0
  unfolding mid
  row_word i h =
      rw added
      (word_put_other mid 0 4 (new_entry t) (omega arith) (new_entry t) i (omega (arith, mid_most)) (omega (arith, mid_most)) (λ q. absurd (omega (arith, new_real t)))
      ∙ word_row_same t (new_entry t) filled (new_real t) filled_length row i h)

  -- its numbers
  pub create_term : (i : ℕ) → i < 7 → word (add_entry t ns) (new_entry t) i ≡ get_or ns i 0
  unfolding filled
  create_term i h = row_word i (omega arith) ∙ get_or-append ns (replicate (1 + most t) 0) 0 i (omega arith)

  -- nobody holds it
  pub create_handle : (k : ℕ) → handle (add_entry t ns) k (new_entry t) ≡ 0
  unfolding filled
  create_handle k = go (dec_le k (most t))
    where
      go : Dec (k ≤ most t) → handle (add_entry t ns) k (new_entry t) ≡ 0
      go (yes l) =
          let q : 7 + k ≡ length ns + k = omega arith in
          handle_in (add_entry t ns) k (new_entry t) (omega (arith, create_most))
          ∙ row_word (7 + k) (omega arith)
          ∙ rw q (get_or-append-add ns (replicate (1 + most t) 0) k 0 ∙ get_or-replicate {0} {A = ℕ} (1 + most t) k 0 0 (omega arith))
      go (no l) = handle_out (add_entry t ns) k (new_entry t) (omega (arith, create_most))

  -- every other handle stays, and every next handle
  pub create_handle_other : (k x : ℕ) → 1 ≤ x → x ≢ new_entry t → handle (add_entry t ns) k x ≡ handle t k x
  create_handle_other k x real n = go (dec_le k (most t))
    where
      go : Dec (k ≤ most t) → handle (add_entry t ns) k x ≡ handle t k x
      go (yes l) =
          handle_in (add_entry t ns) k x (omega (arith, create_most))
          ∙ create_word x (7 + k) (omega arith) n (λ q r. omega arith)
          ∙ sym (handle_in t k x l)
      go (no l) = handle_out (add_entry t ns) k x (omega (arith, create_most)) ∙ sym (handle_out t k x (omega arith))

  pub create_next : (k : ℕ) → next_handle (add_entry t ns) k ≡ next_handle t k
  create_next k = go (dec_le k (most t))
    where
      go : Dec (k ≤ most t) → next_handle (add_entry t ns) k ≡ next_handle t k
      go (yes l) =
          next_in (add_entry t ns) k (omega (arith, create_most))
          ∙ create_word 0 (5 + k) (omega arith) (λ q. omega (arith, new_real t)) (λ q r. omega arith)
          ∙ sym (next_in t k l)
      go (no l) = next_out (add_entry t ns) k (omega (arith, create_most)) ∙ sym (next_out t k (omega arith))

  -- the words after the head's row and the new one
  pub create_after : (i : ℕ) → row_width t ≤ i → row_width t * new_entry t + row_width t ≤ i → get_or (add_entry t ns) i 0 ≡ get_or t i 0
  unfolding mid
  create_after i h h' =
      rw added (put_after mid 0 4 (new_entry t) i (omega arith) ∙ row_after t (new_entry t) filled (new_real t) filled_length row i h')

  -- the number of used entries
  pub create_used : row_width t ≤ size t → used (add_entry t ns) ≡ new_entry t
  unfolding mid
  create_used long =
      let s : size mid ≡ size t = size_row t (new_entry t) filled (new_real t) filled_length row in
      let z : row_width mid * 0 + 4 < size mid = omega (arith, mid_most) in
      rw added (word_put_same mid 0 4 (new_entry t) (omega arith) z)

-- ---- a term's numbers are seven, where it has no more than four arguments
pub numbers_seven : (x : Term) (l : ℕ) → length (numbers_of x l) ≡ 7
unfolding numbers_of
numbers_seven x l = go (arguments_of x)
  where
    go : (xs : List ℕ) → length (type_of x ∷ length xs ∷ (take 4 (xs ++ replicate 4 0) ++ (l ∷ []))) ≡ 7
    go [] = refl
    go (a ∷ []) = refl
    go (a ∷ b ∷ []) = refl
    go (a ∷ b ∷ c ∷ []) = refl
    go (a ∷ b ∷ c ∷ d ∷ xs) = refl
