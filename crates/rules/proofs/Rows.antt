-- An entry whose seven numbers are those of a term, of no more than four arguments, reads as that term: the arguments stand first among
-- the four, with zeros after them. Assumes nothing.
use Prim.Native.Nat.{ℕ, ◌≤◌, ◌<◌}
use native.Mathlib.Omega.{arith}
use mathlib.Core.Path.{◌≡◌, refl, ap, ◌∙◌}
use mathlib.Core.Bool.{true}
use mathlib.Core.List.{List, [], ◌∷◌, ◌++◌}
use lib.ListN.{length, get_or, take, drop, replicate}
use Rattle.rules.specs.Choice.{every, is_zero}
use Rattle.rules.specs.Table.{Table, word, type_at, count_at, arguments, length_at}
use Rattle.rules.specs.Terms.{Term, datum, nonce, list, ciphertext, secret_key, public_key, blank, type_of, arguments_of, elements, term_at, numbers_of}
use Rattle.rules.specs.WellFormed.{unused_are_zero}

-- ---- four numbers, xs and then zeros
abbrev four : List ℕ → List ℕ
four xs = take 4 (xs ++ replicate 4 0)

four_front : (xs : List ℕ) → length xs ≤ 4 → take (length xs) (four xs) ≡ xs
four_front [] h = refl
four_front (a ∷ []) h = refl
four_front (a ∷ b ∷ []) h = refl
four_front (a ∷ b ∷ c ∷ []) h = refl
four_front (a ∷ b ∷ c ∷ d ∷ []) h = refl
four_front (a ∷ b ∷ c ∷ d ∷ x ∷ xs) h = absurd (omega arith)

four_rest : (xs : List ℕ) → every is_zero (drop (length xs) (four xs)) ≡ true
unfolding every is_zero
four_rest [] = refl
four_rest (a ∷ []) = refl
four_rest (a ∷ b ∷ []) = refl
four_rest (a ∷ b ∷ c ∷ []) = refl
four_rest (a ∷ b ∷ c ∷ d ∷ []) = refl
four_rest (a ∷ b ∷ c ∷ d ∷ x ∷ xs) = refl

-- ---- seven numbers
abbrev seven : ℕ → List ℕ → ℕ → List ℕ
seven y xs l = y ∷ length xs ∷ (four xs ++ (l ∷ []))

abbrev Parted : List ℕ → List ℕ → ℕ → Type 0
Parted ns xs l = (get_or ns 2 0 ∷ get_or ns 3 0 ∷ get_or ns 4 0 ∷ get_or ns 5 0 ∷ [] ≡ xs) × (get_or ns 6 0 ≡ l)

seven_parts : (y : ℕ) (xs : List ℕ) (l : ℕ) → Parted (seven y xs l) (four xs) l
seven_parts y [] l = (refl, refl)
seven_parts y (a ∷ []) l = (refl, refl)
seven_parts y (a ∷ b ∷ []) l = (refl, refl)
seven_parts y (a ∷ b ∷ c ∷ []) l = (refl, refl)
seven_parts y (a ∷ b ∷ c ∷ d ∷ xs) l = (refl, refl)

-- the seven numbers of entry e are those of the term x of length l
abbrev pub Reads : Table → ℕ → Term → ℕ → Type 0
Reads t e x l = (i : ℕ) → i < 7 → word t e i ≡ get_or (numbers_of x l) i 0

module _ (t : Table) (e : ℕ) (x : Term) (l : ℕ) (reads : Reads t e x l) (few : length (arguments_of x) ≤ 4) where
  pub row_type : type_at t e ≡ type_of x
  unfolding numbers_of
  row_type = reads 0 (omega arith)

  pub row_count : count_at t e ≡ length (arguments_of x)
  unfolding numbers_of
  row_count = reads 1 (omega arith)

  row_arguments : arguments t e ≡ four (arguments_of x)
  unfolding numbers_of arguments
  row_arguments =
      rw (reads 2 (omega arith), reads 3 (omega arith), reads 4 (omega arith), reads 5 (omega arith))
      (seven_parts (type_of x) (arguments_of x) l).0

  pub row_length : length_at t e ≡ l
  unfolding numbers_of
  row_length = reads 6 (omega arith) ∙ (seven_parts (type_of x) (arguments_of x) l).1

  pub row_elements : elements t e ≡ arguments_of x
  unfolding elements
  row_elements = rw (row_count, row_arguments) (four_front (arguments_of x) few)

  pub row_zeros : unused_are_zero t e ≡ true
  unfolding unused_are_zero
  row_zeros = rw (row_count, row_arguments) (four_rest (arguments_of x))

-- the term, whatever it is
pub row_term : (t : Table) (e : ℕ) (x : Term) (l : ℕ) → Reads t e x l → length (arguments_of x) ≤ 4 → term_at t e ≡ x
unfolding term_at numbers_of type_of arguments_of
row_term t e (datum v) l r h = rw (r 0 (omega arith), r 2 (omega arith)) refl
row_term t e (nonce o p) l r h = rw (r 0 (omega arith), r 2 (omega arith), r 3 (omega arith)) refl
row_term t e (list xs) l r h = rw (r 0 (omega arith)) (ap list (row_elements t e (list xs) l r h))
row_term t e (ciphertext k m) l r h = rw (r 0 (omega arith), r 2 (omega arith), r 3 (omega arith)) refl
row_term t e (secret_key p) l r h = rw (r 0 (omega arith), r 2 (omega arith)) refl
row_term t e (public_key p) l r h = rw (r 0 (omega arith), r 2 (omega arith)) refl
row_term t e blank l r h = rw (r 0 (omega arith)) refl
