-- When an entry is the list that is sought: the type, the number of elements and each element decide. Assumes nothing.
use Prim.Native.Nat.{ℕ, zero, suc, ◌+◌, ◌<◌, min}
use native.Mathlib.Omega.{arith}
use native.Mathlib.Decide.{dec_lt}
use mathlib.Core.Path.{◌≡◌, refl, sym, ap, ◌∙◌}
use mathlib.Core.Logic.{◌≢◌}
use mathlib.Core.Bool.{true, false}
use mathlib.Core.List.{List}
use lib.ListN.{length, get_or, take, length-take}
use lib.Seq.{ext_get_or, get_or-take}
use borrow.Author.Tests.{eqb-true, eq-eqb, ne_eqb, lt-ltb, le-ltb}
use Rattle.rules.specs.Table.{Table, word, type_at, count_at, arguments}
use Rattle.rules.specs.Terms.{list_type, is_list, elements, is_list_of}
use Rattle.rules.specs.declared.Entry.{Entry}
use Rattle.rules.proofs.Logic.{and_left, and_right, both, fails, same_true, same_refl}
use Rattle.rows.specs.Search.{has_both}
use Rattle.terms.specs.Elements.{numbers, sure_place, sure_number}
use Rattle.terms.proofs.Numbers.{number_at, numbers_length, number_at_lem}

-- ---- an entry and the list that is sought
module _ (t : Table) (e : ℕ) where
  -- the first k arguments are the first k numbers of the entries
  abbrev pub Alike : List Entry → ℕ → Type 0
  Alike es k = (i : ℕ) → i < k → word t e (2 + i) ≡ number_at es i

  pub alike_none : (es : List Entry) → Alike es 0
  alike_none es i h = absurd (omega arith)

  pub alike_next : (es : List Entry) (k : ℕ) → Alike es k → word t e (2 + k) ≡ number_at es k → Alike es (k + 1)
  alike_next es k f q i h = go (dec_lt i k)
    where
      go : Dec (i < k) → word t e (2 + i) ≡ number_at es i
      go (yes l) = f i l
      go (no l) = let z : i ≡ k = omega arith in rw z q

  argument_at : (i : ℕ) → i < 4 → get_or (arguments t e) i 0 ≡ word t e (2 + i)
  unfolding arguments
  argument_at zero h = refl
  argument_at (suc zero) h = refl
  argument_at (suc (suc zero)) h = refl
  argument_at (suc (suc (suc zero))) h = refl
  argument_at (suc (suc (suc (suc i)))) h = absurd (omega arith)

  -- another type
  pub other_type : (xs : List ℕ) → type_at t e ≢ list_type → is_list_of t xs e ≡ false
  unfolding is_list_of
  other_type xs h = rw (ne_eqb (type_at t e) list_type h) refl

  other_elements : (xs : List ℕ) → elements t e ≢ xs → is_list_of t xs e ≡ false
  unfolding is_list_of
  other_elements xs h = fails _ (λ q. h (same_true _ _ (and_right (is_list t e) _ q)))

  -- the first n of four entries: w of them are wanted, and the entry has m
  module _ (n : ℕ) (es : List Entry) (four : length es ≡ 4) (c m w : ℕ) (counted : c ≡ count_at t e) (few : m ≡ min c 4) (wanted : w ≡ min n 4) where
    entry_length : length (elements t e) ≡ m
    unfolding elements arguments
    entry_length = length-take (count_at t e) (arguments t e) ∙ ap (λ (i : ℕ). min i 4) (sym counted) ∙ sym few

    entry_at : (i : ℕ) → i < m → get_or (elements t e) i 0 ≡ word t e (2 + i)
    unfolding elements
    entry_at i h = get_or-take (count_at t e) (arguments t e) i 0 (omega arith) ∙ argument_at i (omega arith)

    wanted_length : length (take n (numbers es)) ≡ w
    wanted_length = length-take n (numbers es) ∙ ap (λ (i : ℕ). min n i) (numbers_length es ∙ four) ∙ sym wanted

    wanted_at : (i : ℕ) → i < w → get_or (take n (numbers es)) i 0 ≡ number_at es i
    wanted_at i h = get_or-take n (numbers es) i 0 (omega arith) ∙ number_at_lem es i

    -- another number of elements
    pub other_count : m ≢ w → is_list_of t (take n (numbers es)) e ≡ false
    other_count h = other_elements _ (λ q. h (sym entry_length ∙ ap {B = ℕ} length q ∙ wanted_length))

    -- as many, but another element
    pub other_element : m ≡ w → (k : ℕ) → k < w → word t e (2 + k) ≢ number_at es k → is_list_of t (take n (numbers es)) e ≡ false
    other_element s k l h = other_elements _
        (λ q. h (sym (entry_at k (omega arith)) ∙ ap (λ (xs : List ℕ). get_or xs k 0) q ∙ wanted_at k l))

    -- the very list
    pub the_list : type_at t e ≡ list_type → m ≡ w → Alike es w → is_list_of t (take n (numbers es)) e ≡ true
    unfolding is_list_of
    the_list y s f =
        let q : elements t e ≡ take n (numbers es) = ext_get_or 0 _ _ (entry_length ∙ s ∙ sym wanted_length)
        (λ i h. let l : i < m = rw entry_length at h in entry_at i l ∙ f i (omega arith) ∙ sym (wanted_at i (omega arith))) in
        both (eq-eqb (type_at t e) list_type y) (rw q (same_refl (take n (numbers es))))

  -- ---- the words by which a list of the first n of four entries is sought
  module _ (n : ℕ) (es : List Entry) (four : length es ≡ 4) (is : is_list_of t (take n (numbers es)) e ≡ true) where
    alike : elements t e ≡ take n (numbers es)
    unfolding is_list_of
    alike = same_true _ _ (and_right (is_list t e) _ is)

    type_is : word t e 0 ≡ list_type
    unfolding is_list_of
    type_is = eqb-true (type_at t e) list_type (and_left (is_list t e) _ is)

    -- element i of the list is the entry's
    element_is : (i : ℕ) → i < n → i < 4 → word t e (2 + i) ≡ number_at es i
    element_is i l h =
        let as_many = sym (wanted_length n es four _ _ _ refl refl refl) ∙ ap {B = ℕ} length (sym alike) ∙ entry_length n es four _ _ _ refl refl refl in
        sym (entry_at n es four _ _ _ refl refl refl i (omega (arith, as_many))) ∙ ap (λ (xs : List ℕ). get_or xs i 0) alike
        ∙ wanted_at n es four _ _ _ refl refl refl i (omega arith)

    sure_word : (i : ℕ) → i < 4 → (p v : ℕ) → p ≡ sure_place n i → v ≡ sure_number n i (number_at es i) → word t e p ≡ v
    unfolding sure_place sure_number
    sure_word i h p v q r = go (dec_lt i n)
      where
        go : Dec (i < n) → word t e p ≡ v
        go (yes l) = rw (q, r, lt-ltb i n l) (element_is i l h)
        go (no l) = rw (q, r, le-ltb i n (omega arith)) type_is

    pub has_sure : (p v o w : ℕ) → p ≡ sure_place n 0 → v ≡ sure_number n 0 (number_at es 0) → o ≡ sure_place n 1
        → w ≡ sure_number n 1 (number_at es 1) → has_both t p v o w e ≡ true
    unfolding has_both
    has_sure p v o w a b c d =
        both (eq-eqb (word t e p) v (sure_word 0 (omega arith) p v a b)) (eq-eqb (word t e o) w (sure_word 1 (omega arith) o w c d))
