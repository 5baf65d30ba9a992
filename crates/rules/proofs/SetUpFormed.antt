-- The table that set-up leaves is well formed, clause by clause: the entries are keys that set-up writes in full, and every knower's
-- handles are given in order. Assumes nothing.
use Prim.Native.Nat.{ℕ, ◌*◌, ◌≤◌}
use native.Mathlib.Omega.{arith}
use native.Mathlib.Decide.{dec_le, ℕ_discrete}
use mathlib.Core.Path.{◌≡◌, refl}
use mathlib.Core.Logic.{◌≢◌}
use mathlib.Core.Bool.{Bool, true, false}
use lib.Dec.{eqb}
use borrow.Author.Tests.{le-leb, lt-ltb, eq-eqb, ne_eqb}
use Rattle.rules.specs.Choice.{◌or◌, every, is_zero, count}
use Rattle.rules.specs.Table.{Table, this_version, most, words_for, participants, mask, used, spares_fit, arguments, in_mask, is_participant, honest, every_knower}
use Rattle.rules.specs.Terms.{term_at, longest, length_of, secret_key_type, public_key_type, secret_key_length, public_key_length, secret_key_of, public_key_of}
use Rattle.rules.specs.Handles.{holds, held}
use Rattle.rules.specs.SetUp.{set_up_fits, set_up_table}
use Rattle.rules.specs.WellFormed.{run_is_long, head_fits, used_fits, held_as_named, is_secret_key_of, is_public_key_of, keys_fit, type_fits, count_of, count_fits, unused_are_zero, nonce_fits, list_fits, ciphertext_fits, length_fits, entry_fits, may_hold, handle_is_below, handles_fit, well_formed}
use Rattle.rules.proofs.Logic.{both, or_right, agree_same}
use Rattle.rules.proofs.Walks.{all_from, count_stop}
use Rattle.rules.proofs.Sized.{Sized, sized_head}
use Rattle.rules.proofs.Formed.{knower_from}
use Rattle.rules.proofs.KeyRows.{KeyRow, by_key}
use Rattle.rules.proofs.AfterSetUp.{set_up_secret_row, set_up_public_row, people_fit, mask_fit, mask_people, capacity_fit, set_up_keyed, set_up_sized, set_up_version, set_up_head, set_up_most, set_up_spare, set_up_secret, set_up_public, set_up_strangers}

-- ---- a row of a key fits
module _ (t : Table) (e p : ℕ) (early : e ≤ 2 * participants t) where
  secret_fits : KeyRow t e secret_key_type p secret_key_length → entry_fits t e ≡ true
  unfolding entry_fits type_fits count_fits count_of unused_are_zero every is_zero arguments nonce_fits list_fits ciphertext_fits length_fits term_at length_of longest secret_key_length
  secret_fits r = rw (le-leb e (2 * participants t) early, r.kind, r.single, r.second, r.third, r.fourth, r.bytes) refl

  public_fits : KeyRow t e public_key_type p public_key_length → entry_fits t e ≡ true
  unfolding entry_fits type_fits count_fits count_of unused_are_zero every is_zero arguments nonce_fits list_fits ciphertext_fits length_fits term_at length_of longest public_key_length
  public_fits r = rw (le-leb e (2 * participants t) early, r.kind, r.single, r.second, r.third, r.fourth, r.bytes) refl

module _ (n m c : ℕ) (t : Table) (fits : set_up_fits t n m c ≡ true) where
  abbrev s : Table
  s = set_up_table t n m c

  people : participants s ≡ n
  people = (set_up_head n m c t fits).0

  honesty : mask s ≡ m
  honesty = (set_up_head n m c t fits).1

  keys : used s ≡ 2 * n
  keys = (set_up_head n m c t fits).3

  sized : Sized s
  sized = set_up_sized n m c t fits

  -- W1
  run_fits : run_is_long s ≡ true
  unfolding run_is_long words_for
  run_fits =
      both (le-leb _ _ (sized_head sized)) (rw (set_up_version n m c t fits, ← set_up_most n m c t fits) (le-leb _ _ sized.long))

  -- W2
  spares_fit_lem : spares_fit s ≡ true
  unfolding spares_fit
  spares_fit_lem = rw (set_up_most n m c t fits)
      (both (eq-eqb _ 0 (set_up_spare n m c t fits _ (omega arith) (omega arith))) (eq-eqb _ 0 (set_up_spare n m c t fits _ (omega arith) (omega arith))))

  head_fits_lem : head_fits s ≡ true
  unfolding head_fits
  head_fits_lem = rw (set_up_version n m c t fits, people, honesty, (set_up_head n m c t fits).2)
      (both (eq-eqb this_version this_version refl)
      (both (people_fit n m c t fits) (both (mask_fit n m c t fits) (both (capacity_fit n m c t fits) spares_fit_lem))))

  -- W3
  used_fits_lem : used_fits s ≡ true
  unfolding used_fits
  used_fits_lem = both (le-leb (2 * participants s) (used s) (omega (arith, people, keys))) (le-leb _ _ sized.room)

  -- W4
  held_fit : (named : ℕ → Bool) (e : ℕ) → ((k : ℕ) → holds s k e ≡ named k) → every_knower s (held_as_named s named e) ≡ true
  unfolding held_as_named
  held_fit named e h = knower_from s _ (λ k l. agree_same (holds s k e) (named k) (h k))

  keys_fit_lem : (p : ℕ) → 1 ≤ p → p ≤ n → keys_fit s p ≡ true
  unfolding keys_fit is_secret_key_of is_public_key_of
  keys_fit_lem p a b =
      let x = set_up_secret_row n m c t fits p a b in
      let y = set_up_public_row n m c t fits p a b in
      rw (honesty, x.kind, x.owner, y.kind, y.owner)
      (both (both (eq-eqb p p refl) (held_fit _ _ (set_up_secret n m c t fits p a b))) (both (eq-eqb p p refl) (held_fit _ _ (set_up_public n m c t fits p a b))))

  -- W5 to W10
  entries_fit : (e : ℕ) → 1 ≤ e → e ≤ 2 * n → entry_fits s e ≡ true
  unfolding secret_key_of public_key_of
  entries_fit = by_key (λ e. entry_fits s e ≡ true) n
      (λ p a b. secret_fits s (secret_key_of p) p (omega (arith, people)) (set_up_secret_row n m c t fits p a b))
      (λ p a b. public_fits s (public_key_of p) p (omega (arith, people)) (set_up_public_row n m c t fits p a b))

  -- W11
  stranger_holds : (k : ℕ) → k ≢ 0 → in_mask m k ≡ false → held s k ≡ 0
  unfolding held count
  stranger_holds k h i = rw keys (count_stop (holds s k) 0 (2 * n) (omega arith) (λ e a b. set_up_strangers n m c t fits k h i e a b))

  may_hold_lem : (k : ℕ) → k ≤ most s → (may_hold s k or eqb (held s k) 0) ≡ true
  unfolding may_hold honest is_participant
  may_hold_lem k l = go (ℕ_discrete k 0) (dec_le k n) (in_mask m k) refl
    where
      stranger : k ≢ 0 → in_mask m k ≡ false → (may_hold s k or eqb (held s k) 0) ≡ true
      stranger h i = or_right (may_hold s k) _ (eq-eqb _ 0 (stranger_holds k h i))

      go : Dec (k ≡ 0) → Dec (k ≤ n) → (b : Bool) → in_mask m k ≡ b → (may_hold s k or eqb (held s k) 0) ≡ true
      go (yes q) d b i = rw (eq-eqb k 0 q) refl
      go (no q) (yes h) true i = rw (ne_eqb k 0 q, le-leb 1 k (omega arith), people, le-leb k n h, le-leb k (most s) l, honesty, i) refl
      go (no q) (yes h) false i = stranger q i
      go (no q) (no h) b i = stranger q (mask_people n m c t fits k (omega arith))

  handles_fit_lem : (k : ℕ) → k ≤ most s → handles_fit s k ≡ true
  unfolding handles_fit handle_is_below
  handles_fit_lem k h =
      let d = (set_up_keyed n m c t fits).counted k in
      both (may_hold_lem k h)
      (both (eq-eqb _ _ d.next) (all_from (handle_is_below s k) (used s) (λ e a b. lt-ltb _ _ (d.below e (record { low = a; high = b })))))

  pub set_up_formed : well_formed (set_up_table t n m c) ≡ true
  unfolding well_formed
  set_up_formed = rw (people, keys)
      (both run_fits (both head_fits_lem (both used_fits_lem
      (both (all_from (keys_fit s) n keys_fit_lem) (both (all_from (entry_fits s) (2 * n) entries_fit) (knower_from s (handles_fit s) handles_fit_lem))))))
