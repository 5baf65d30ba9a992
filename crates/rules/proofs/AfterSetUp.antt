-- What set-up leaves where it isn't refused, as plain facts: its head, the keys and nothing else, who holds them, and the words past the
-- table. Assumes nothing.
use Rattle.std.specs.Prelude.{if◌then◌else◌}
use Prim.Native.Nat.{ℕ, ◌+◌, ◌*◌, ◌≤◌, ◌<◌}
use native.Mathlib.Omega.{arith}
use native.Mathlib.Decide.{dec_le}
use mathlib.Core.Path.{◌≡◌, refl, sym, ◌∙◌}
use mathlib.Core.Logic.{◌≢◌}
use mathlib.Core.Bool.{Bool, true, false}
use mathlib.Core.List.{[], ◌∷◌}
use lib.Dec.{leb}
use lib.ListN.{get_or, drop, length-drop}
use lib.Seq.{ext_get_or, get_or-drop}
use borrow.Author.Tests.{leb-true, ltb-true}
use Rattle.rules.specs.Choice.{◌and◌}
use Rattle.rules.specs.Table.{Table, size, this_version, most_of, most, words_for, word, version, participants, mask, capacity, used, in_mask}
use Rattle.rules.specs.Terms.{Term, secret_key, public_key, type_of, arguments_of, secret_key_type, public_key_type, secret_key_length, public_key_length, secret_key_of, public_key_of}
use Rattle.rules.specs.Handles.{holds}
use Rattle.rules.specs.SetUp.{participants_fit, mask_fits, capacity_fits, set_up_fits, holds_secret_key, holds_public_key, empty_table, set_up_table}
use Rattle.rules.specs.Outcome.{Outcome, gives, ready, refused, need}
use Rattle.rules.specs.Machine.{set_up}
use Rattle.rules.proofs.Logic.{and_left, and_right}
use Rattle.rules.proofs.Granting.{none_holds, handle_out}
use Rattle.rules.proofs.Grows.{grows_most}
use Rattle.rules.proofs.Sized.{Sized, sized_grows}
use Rattle.rules.proofs.EmptyTable.{empty_most, empty_size, empty_head, empty_spare, empty_past, empty_end, empty_sized, empty_counted}
use Rattle.rules.proofs.Stands.{Stands}
use Rattle.rules.proofs.KeyRows.{KeyRow, single_row, by_key, Keyed, all_keyed}
use Rattle.rules.proofs.KeyHolders.{mask_low, secret_stranger, public_stranger}

-- the one place that counts the form's participants: their keys fit the least capacity
few_keys : (n : ℕ) → n ≤ most_of this_version → 2 * n ≤ 16
unfolding most_of
few_keys n h = omega arith

-- ---- the numbers that set-up takes
module _ (n m c : ℕ) (t : Table) (fits : set_up_fits t n m c ≡ true) where
  pub people_fit : participants_fit n ≡ true
  unfolding set_up_fits
  people_fit = and_left (participants_fit n) _ fits

  after_people : mask_fits n m and capacity_fits c and leb (words_for this_version c) (size t) ≡ true
  unfolding set_up_fits
  after_people = and_right (participants_fit n) _ fits

  pub mask_fit : mask_fits n m ≡ true
  mask_fit = and_left (mask_fits n m) _ after_people

  pub capacity_fit : capacity_fits c ≡ true
  capacity_fit = and_left (capacity_fits c) _ (and_right (mask_fits n m) _ after_people)

  pub long : words_for this_version c ≤ size t
  long = leb-true _ _ (and_right (capacity_fits c) _ (and_right (mask_fits n m) _ after_people))

  few : n ≤ most_of this_version
  unfolding participants_fit
  few = leb-true _ _ (and_right (leb 2 n) _ people_fit)

  -- nobody past the participants is in the mask
  pub mask_people : (k : ℕ) → n < k → in_mask m k ≡ false
  unfolding mask_fits
  mask_people k h = mask_low n m k (ltb-true _ _ mask_fit) h

  wide : 16 ≤ c
  unfolding capacity_fits
  wide = leb-true _ _ (and_left (leb 16 c) _ capacity_fit)

  small : c ≤ 512
  unfolding capacity_fits
  small = leb-true _ _ (and_right (leb 16 c) _ capacity_fit)

  -- ---- the table that it leaves
  starts : Sized (empty_table t n m c)
  starts = empty_sized t n m c long small

  room : 2 * n ≤ capacity (empty_table t n m c)
  room = omega (arith, few_keys n few, wide, empty_head t n m c long 3 (omega arith))

  pub set_up_keyed : Keyed (empty_table t n m c) m (set_up_table t n m c) n
  unfolding set_up_table
  set_up_keyed = all_keyed (empty_table t n m c) m starts (empty_head t n m c long 4 (omega arith)) (empty_counted t n m c long) n room

  pub set_up_sized : Sized (set_up_table t n m c)
  set_up_sized = sized_grows set_up_keyed.extends.grows (omega (arith, set_up_keyed.so_far, room)) starts

  head_word : (i : ℕ) → i < 4 → word (set_up_table t n m c) 0 i ≡ get_or (this_version ∷ n ∷ m ∷ c ∷ 0 ∷ []) i 0
  head_word i h = set_up_keyed.extends.grows.head i h ∙ empty_head t n m c long i (omega arith)

  pub set_up_version : version (set_up_table t n m c) ≡ this_version
  set_up_version = head_word 0 (omega arith)

  pub set_up_head : (participants (set_up_table t n m c) ≡ n) × (mask (set_up_table t n m c) ≡ m) × (capacity (set_up_table t n m c) ≡ c)
      × (used (set_up_table t n m c) ≡ 2 * n) × (size (set_up_table t n m c) ≡ size t)
  set_up_head = (
    head_word 1 (omega arith),
    head_word 2 (omega arith),
    head_word 3 (omega arith),
    set_up_keyed.so_far,
    set_up_keyed.extends.grows.run ∙ empty_size t n m c long,
  )

  pub set_up_most : most (set_up_table t n m c) ≡ most_of this_version
  set_up_most = grows_most set_up_keyed.extends.grows ∙ empty_most t n m c long

  pub set_up_spare : (i : ℕ) → most_of this_version + 5 < i → i < 8 + most_of this_version → word (set_up_table t n m c) 0 i ≡ 0
  set_up_spare i h h' =
      set_up_keyed.extends.margins.spare i (omega (arith, empty_most t n m c long)) (omega (arith, empty_most t n m c long))
      ∙ empty_spare t n m c long i h h'

  -- the words past the table stay
  pub set_up_past : drop (words_for this_version c) (set_up_table t n m c) ≡ drop (words_for this_version c) t
  set_up_past = ext_get_or 0 _ _ (simp length-drop (rw set_up_head.4 refl)) (λ i h. rw (get_or-drop _ (set_up_table t n m c), get_or-drop _ t)
      (set_up_keyed.extends.margins.past (words_for this_version c + i) (omega (arith, empty_end t n m c long))
      ∙ empty_past t n m c long (words_for this_version c + i) (omega arith)))

  -- ---- the keys, and who holds them
  pub set_up_secret_row : (p : ℕ) → 1 ≤ p → p ≤ n → KeyRow (set_up_table t n m c) (secret_key_of p) secret_key_type p secret_key_length
  unfolding type_of arguments_of
  set_up_secret_row p a b = single_row _ _ (secret_key p) p _ refl (set_up_keyed.secret p a b).numbers

  pub set_up_public_row : (p : ℕ) → 1 ≤ p → p ≤ n → KeyRow (set_up_table t n m c) (public_key_of p) public_key_type p public_key_length
  unfolding type_of arguments_of
  set_up_public_row p a b = single_row _ _ (public_key p) p _ refl (set_up_keyed.public p a b).numbers

  -- just the named hold it, where no stranger is named: a knower past the form's is a stranger, and holds nothing
  holds_named : {e : ℕ} {x : Term} {l : ℕ} {named : ℕ → Bool} → Stands (set_up_table t n m c) e x l named
      → ((k : ℕ) → k ≢ 0 → in_mask m k ≡ false → named k ≡ false) → (k : ℕ) → holds (set_up_table t n m c) k e ≡ named k
  holds_named {e} {named = named} h f k = go (dec_le k (most (set_up_table t n m c)))
    where
      go : Dec (k ≤ most (set_up_table t n m c)) → holds (set_up_table t n m c) k e ≡ named k
      go (yes i) = h.holders k i
      go (no i) = none_holds _ k e (handle_out _ k e (omega arith)) ∙ sym (f k (λ q. omega arith) (mask_people k (omega (arith, few, set_up_most))))

  pub set_up_secret : (p : ℕ) → 1 ≤ p → p ≤ n → (k : ℕ) → holds (set_up_table t n m c) k (secret_key_of p) ≡ holds_secret_key m p k
  set_up_secret p a b = holds_named (set_up_keyed.secret p a b) (secret_stranger m p)

  pub set_up_public : (p : ℕ) → 1 ≤ p → p ≤ n → (k : ℕ) → holds (set_up_table t n m c) k (public_key_of p) ≡ holds_public_key m k
  set_up_public p a b = holds_named (set_up_keyed.public p a b) (public_stranger m)

  -- nobody but knower 0 and the honest holds anything
  pub set_up_strangers : (k : ℕ) → k ≢ 0 → in_mask m k ≡ false → (e : ℕ) → 1 ≤ e → e ≤ 2 * n → holds (set_up_table t n m c) k e ≡ false
  set_up_strangers k h i = by_key (λ e. holds (set_up_table t n m c) k e ≡ false) n
      (λ p a b. set_up_secret p a b k ∙ secret_stranger m p k h i)
      (λ p a b. set_up_public p a b k ∙ public_stranger m k h i)

-- ---- set-up that answers has fitting numbers, and leaves that table
pub set_up_answers : (n m c : ℕ) (t : Table) (u : ℕ) → (set_up n m c t).answer ≡ ready u
    → (set_up_fits t n m c ≡ true) × ((set_up n m c t).table ≡ set_up_table t n m c) × (u ≡ 2 * n)
unfolding set_up need
set_up_answers n m c t u = go (set_up_fits t n m c) refl
  where
    leaves : Bool → Outcome
    leaves b = if b then gives (ready (used (set_up_table t n m c))) (set_up_table t n m c) else gives (refused 2) t

    go : (b : Bool) → set_up_fits t n m c ≡ b → (leaves b).answer ≡ ready u → (b ≡ true) × ((leaves b).table ≡ set_up_table t n m c) × (u ≡ 2 * n)
    go true h q =
        let e : used (set_up_table t n m c) ≡ u = cc in
        (refl, refl, sym e ∙ (set_up_head n m c t h).3)
    go false h q = let z : ◌≡◌ {A = ℕ} 1 7 = cc in absurd (omega arith)
