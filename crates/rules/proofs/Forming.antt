-- Creating a term that fits, and granting an entry that is no secret key to one who may hold it, keep a table well formed: they leave
-- the head, the keys and their holders, and all that the entries' tests read. Assumes nothing.
use Prim.Native.Nat.{ℕ, ◌+◌, ◌*◌, ◌≤◌, ◌<◌}
use native.Mathlib.Omega.{arith}
use native.Mathlib.Decide.{dec_le, ℕ_discrete}
use mathlib.Core.Path.{◌≡◌, refl, ◌∙◌}
use mathlib.Core.Logic.{◌⊎◌, inl, inr}
use mathlib.Core.Bool.{Bool, true, false}
use mathlib.Core.List.Memᴰ
use mathlib.Core.List.{List, [], ◌∷◌}
use lib.Dec.{eqb}
use borrow.Author.Tests.{eq-eqb}
use Rattle.rules.specs.Choice.{◌and◌}
use Rattle.rules.specs.Table.{Table, most, participants, mask, capacity, used, spares_fit, type_at, argument, handle, honest, every_knower}
use Rattle.rules.specs.Terms.{Term, secret_key_type, public_key_type, secret_key_of, public_key_of, type_of, numbers_of, new_entry, create}
use Rattle.rules.specs.Handles.{holds, grant, grant_each}
use Rattle.rules.specs.SetUp.{holds_secret_key, holds_public_key}
use Rattle.rules.specs.WellFormed.{head_fits, held_as_named, is_secret_key_of, is_public_key_of, keys_fit, entry_fits, may_hold}
use Rattle.rules.proofs.Logic.{or_right, never}
use Rattle.rules.proofs.Walks.{all_same}
use Rattle.rules.proofs.Granting.{grant_held, grant_handle_other}
use Rattle.rules.proofs.Shaped.{Used, Person}
use Rattle.rules.proofs.Grows.{Grows, grows_most, grows_honest, grant_grows, grant_used}
use Rattle.rules.proofs.Holding.{Untouched, grant_untouched}
use Rattle.rules.proofs.Sized.{Sized, sized_shaped, sized_new}
use Rattle.rules.proofs.Counted.{untouched_held, counted_untouched, counted_grant}
use Rattle.rules.proofs.Formed.{Knower, Formed}
use Rattle.rules.proofs.Shaping.{KeyPlace, secret, public, key_place, later_low, shape}
use Rattle.rules.proofs.Margins.{Margins, grant_margins}
use Rattle.rules.proofs.Created.{Created, created}
use Rattle.rules.proofs.Entries.{Open, AllOpen, Fits, word_grows, all_grow, parts_later, fits_kept, fits_new}

-- ---- what a later table keeps
module _ {t t' : Table} (g : Grows t t') where
  spares_kept : Margins t t' → spares_fit t' ≡ spares_fit t
  unfolding spares_fit
  spares_kept m = rw (grows_most g, m.spare (6 + most t) (omega arith) (omega arith), m.spare (7 + most t) (omega arith) (omega arith)) refl

  head_kept : Margins t t' → head_fits t ≡ true → head_fits t' ≡ true
  unfolding head_fits
  head_kept m h = rw (spares_kept m, g.head 0 (omega arith), g.head 1 (omega arith), g.head 2 (omega arith), g.head 3 (omega arith)) h

  -- a key's holders, where its handles are the same
  named_same : (named : ℕ → Bool) (e : ℕ) → ((k : ℕ) → handle t' k e ≡ handle t k e)
      → every_knower t' (held_as_named t' named e) ≡ every_knower t (held_as_named t named e)
  unfolding every_knower held_as_named holds
  named_same named e h =
      rw (grows_most g, one 0, all_same (held_as_named t' named e) (held_as_named t named e) (most t) (λ k a b. one k)) refl
    where
      one : (k : ℕ) → held_as_named t' named e k ≡ held_as_named t named e k
      one k = rw (h k) refl

  key_same : (y p : ℕ) (named : ℕ → Bool) (e : ℕ) → Used t e → ((k : ℕ) → handle t' k e ≡ handle t k e)
      → eqb (type_at t' e) y and eqb (argument t' e 1) p and every_knower t' (held_as_named t' named e)
      ≡ eqb (type_at t e) y and eqb (argument t e 1) p and every_knower t (held_as_named t named e)
  key_same y p named e u h = rw (word_grows g e 0 u (omega arith), word_grows g e 2 u (omega arith), named_same named e h) refl

  keys_kept : Formed t → ((k e : ℕ) → 1 ≤ e → e ≤ 2 * participants t → handle t' k e ≡ handle t k e)
      → (p : ℕ) → Person t p → keys_fit t' p ≡ true
  unfolding keys_fit is_secret_key_of is_public_key_of secret_key_of public_key_of
  keys_kept f h p w =
      let u : Used t (secret_key_of p) = record { low = omega (arith, w.low); high = omega (arith, f.keyed, w.high) } in
      let v : Used t (public_key_of p) = record { low = omega (arith, w.low); high = omega (arith, f.keyed, w.high) } in
      rw (
        g.head 2 (omega arith),
        key_same secret_key_type p (holds_secret_key (mask t) p) (secret_key_of p) u (λ k. h k (secret_key_of p) u.low (omega (arith, w.high))),
        key_same public_key_type p (holds_public_key (mask t)) (public_key_of p) v (λ k. h k (public_key_of p) v.low (omega (arith, w.high))),
      )
      (f.keys p w)

  may_kept : (k : ℕ) → may_hold t' k ≡ may_hold t k
  unfolding may_hold
  may_kept k = rw (grows_honest g k) refl

  -- one who was granted nothing
  knower_kept : (k : ℕ) → Untouched k t t' → Knower t k → Knower t' k
  knower_kept k v n = record { may = rw (may_kept k, untouched_held g v) n.may; counted = counted_untouched g v n.counted }

  -- the whole, where the keys are held as before, and what is new fits
  formed_kept : Formed t → Margins t t' → used t' ≤ capacity t
      → ((k e : ℕ) → 1 ≤ e → e ≤ 2 * participants t → handle t' k e ≡ handle t k e)
      → ((e : ℕ) → used t < e → e ≤ used t' → entry_fits t' e ≡ true) → ((k : ℕ) → Knower t' k) → Formed t'
  formed_kept f m r h new knows = record {
    long = rw (grows_most g, g.head 3 (omega arith), g.run) f.long;
    head = head_kept m f.head;
    keyed = omega (arith, f.keyed, g.more, g.head 1 (omega arith));
    room = omega (arith, g.head 3 (omega arith));
    keys = λ p w. keys_kept f h p (record { low = w.low; high = omega (arith, w.high, g.head 1 (omega arith)) });
    entries = λ e u. entry e u (dec_le e (used t));
    knowers = knows;
  }
    where
      entry : (e : ℕ) → Used t' e → Dec (e ≤ used t) → entry_fits t' e ≡ true
      entry e u (yes l) = fits_kept t t' f g e (record { low = u.low; high = l })
      entry e u (no l) = new e (omega arith) u.high

-- the run has the row of every entry up to the capacity
sized : (t : Table) → Formed t → Sized t
sized t f = sized_shaped (shape t f)

-- ---- creating
module _ (t : Table) (f : Formed t) (x : Term) (l : ℕ) (fits : Fits t x l) (more : used t < capacity t) where
  pub create_leaves : Created t x l
  create_leaves = created t x l (sized t f) more

  pub create_formed : Formed (create t x l)
  create_formed =
      let c = create_leaves in
      formed_kept c.grows f c.margins (omega (arith, c.one))
      (λ k e a b. (c.untouched k).old e (record { low = a; high = omega (arith, f.keyed) }))
      (λ e a b.
      let q : new_entry t ≡ e = omega (arith, sized_new (sized t f), c.one) in
      fits_new t (create t x l) c.grows e a x l (rw q at c.reads) fits)
      (λ k. knower_kept c.grows k (c.untouched k) (f.knowers k))

  pub create_type : type_at (create t x l) (new_entry t) ≡ type_of x
  unfolding numbers_of
  create_type = create_leaves.reads 0 (omega arith)

  pub create_open : Open (create t x l) (new_entry t)
  create_open = record {
    uses = create_leaves.uses;
    other = λ q. omega (arith, create_type, later_low (type_of x) (parts_later t x fits.parts));
  }

-- ---- granting
pub holder_grows : {t t' : Table} → Grows t t' → (k : ℕ) → (k ≡ 0) ⊎ (honest t k ≡ true) → (k ≡ 0) ⊎ (honest t' k ≡ true)
holder_grows g k (inl z) = inl z
holder_grows g k (inr h) = inr (grows_honest g k ∙ h)

module _ (t : Table) (f : Formed t) (k e : ℕ) (o : Open t e) (may : (k ≡ 0) ⊎ (honest t k ≡ true)) where
  grows : Grows t (grant t k e)
  grows = grant_grows t k e o.uses.low

  margins : Margins t (grant t k e)
  margins = grant_margins t k e o.uses.low (omega (arith, o.uses.high, f.room))

  -- a public key is held already
  no_key : holds t k e ≡ false → 2 * participants t < e
  no_key n = go (dec_le e (2 * participants t))
    where
      place : KeyPlace t e → 2 * participants t < e
      place (secret p w q) = absurd (o.other (rw q ((shape t f).key_types p w).0))
      place (public p w q) = never (rw q ((shape t f).public_held p k w may)) n

      go : Dec (e ≤ 2 * participants t) → 2 * participants t < e
      go (yes l) = place (key_place t e o.uses.low l)
      go (no l) = omega arith

  may_hold_lem : may_hold (grant t k e) k ≡ true
  unfolding may_hold
  may_hold_lem = may_kept grows k ∙ go may
    where
      go : (k ≡ 0) ⊎ (honest t k ≡ true) → may_hold t k ≡ true
      go (inl z) = rw (eq-eqb k 0 z) refl
      go (inr h) = rw h (or_right (eqb k 0) true refl)

  module _ (new : holds t k e ≡ false) where
    knower_granted : Knower (grant t k e) k
    knower_granted =
        record { may = rw may_hold_lem refl; counted = counted_grant t k e (sized t f) o.uses k (f.knowers k).counted }

    new_formed : Formed (grant t k e)
    new_formed = formed_kept grows f margins (omega (arith, grant_used t k e o.uses.low, f.room))
        (λ j x a b. grant_handle_other t k e j x a (λ q r. omega (arith, no_key new)))
        (λ x a b. absurd (omega (arith, grant_used t k e o.uses.low)))
        (λ j. go j (ℕ_discrete j k))
      where
        go : (j : ℕ) → Dec (j ≡ k) → Knower (grant t k e) j
        go j (yes q) = rw q knower_granted
        go j (no q) = knower_kept grows j (grant_untouched t k j e o.uses.low q) (f.knowers j)

  pub grant_formed : Formed (grant t k e)
  grant_formed = go (holds t k e) refl
    where
      go : (b : Bool) → holds t k e ≡ b → Formed (grant t k e)
      go true h = rw (grant_held t k e h) f
      go false h = new_formed h

pub each_formed : (t : Table) → Formed t → (k : ℕ) (es : List ℕ) → AllOpen t es → (k ≡ 0) ⊎ (honest t k ≡ true)
    → Formed (grant_each t k es)
unfolding grant_each
each_formed t f k [] o may = f
each_formed t f k (e ∷ es) o may =
    let h = o e (Memᴰ.head refl) in
    let g = grant_grows t k e h.uses.low in
    each_formed (grant t k e) (grant_formed t f k e h may) k es (all_grow g es (λ x i. o x (Memᴰ.tail i))) (holder_grows g k may)
