-- What sending a message does to the table: new entries stand above the used ones and belong to nobody, then the sender is granted what
-- it knows by now and knower 0 the outer list alone, under its next handle, which no lower entry has. Assumes nothing.
use Prim.Native.Nat.{ℕ, ◌+◌, ◌≤◌, ◌<◌}
use native.Mathlib.Omega.{arith}
use native.Mathlib.Decide.{dec_le}
use mathlib.Core.Path.{◌≡◌, refl, sym, ◌∙◌}
use mathlib.Core.Logic.{◌≢◌, ◌⊎◌, inl, inr}
use mathlib.Core.Bool.{true, false}
use mathlib.Core.List.{List, [], ◌∷◌, ◌++◌, Memᴰ}
use lib.ListN.{length, length-append}
use borrow.Author.Tests.{eq-eqb, ne_eqb}
use Rattle.rules.specs.Table.{Table, most, capacity, used, next_handle, handle}
use Rattle.rules.specs.Terms.{datum, nonce, list, ciphertext, blank, arguments_of, public_key_of, datum_length, nonce_length, list_length, ciphertext_length, find_datum, find_list}
use Rattle.rules.specs.Handles.{grant, grant_each, names, entry_of}
use Rattle.rules.specs.Outcome.{Outcome, gives, sent}
use Rattle.rules.specs.Steps.{Made, make, make_unless, unless_found, sealed_lengths, send, named_length, named_lengths, send_named}
use Rattle.rules.specs.Handshake.{term_in, Carries}
use Rattle.rules.proofs.Logic.{each_none, each_cons, each_append}
use Rattle.rules.proofs.Walks.{lowest_first}
use Rattle.rules.proofs.Granting.{none_holds, grant_handle_other}
use Rattle.rules.proofs.Shaped.{Used, Person, Shaped}
use Rattle.rules.proofs.Grows.{Grows, grows_refl, grows_trans, grows_most, term_out, grant_grows, grant_used}
use Rattle.rules.proofs.Holding.{Holds, Untouched, untouched_trans, untouched_holds, grant_untouched, grant_holds, each_grows, each_used, each_untouched, each_holds}
use Rattle.rules.proofs.Sized.{sized_shaped, sized_handle, sized_grows}
use Rattle.rules.proofs.Reading.{Found, datum_found, list_found, found_later}
use Rattle.rules.proofs.Needs.{named_count, alone_count}
use Rattle.rules.proofs.Obtaining.{Creates, creates_stays, make_creates, creates_after, make_entry, make_used, unless_creates, unless_used}

-- a number that an entry may have
abbrev pub Real : ℕ → Type 0
Real x = 1 ≤ x

-- ---- a message sent by p to q: its three entries, the handle given, and who holds more than before
pub record Posted (t : Table) (p q : ℕ) (known xs : List ℕ) (o : Outcome) : Type 0 where
  pub handed : ℕ
  pub outer : ℕ
  pub ct : ℕ
  pub plain : ℕ
  pub told : o.answer ≡ sent p q handed
  pub grows : Grows t o.table
  pub is_outer : term_in o.table outer ≡ list (ct ∷ [])
  pub is_ct : term_in o.table ct ≡ ciphertext (public_key_of q) plain
  pub is_plain : term_in o.table plain ≡ list xs
  pub names : entry_of o.table 0 handed ≡ outer
  pub to_zero : (e : ℕ) → Holds o.table 0 e → Holds t 0 e ⊎ (e ≡ outer)
  pub to_p : (e : ℕ) → Holds o.table p e → Holds t p e ⊎ Memᴰ e (known ++ (plain ∷ ct ∷ outer ∷ []))
  pub others : (k : ℕ) → k ≢ 0 → k ≢ p → Untouched k t o.table

-- the handle given carries the list
pub posted_carries : {t : Table} {p q : ℕ} {known xs : List ℕ} {o : Outcome} → (m : Posted t p q known xs o) → Carries o.table m.handed [] q xs
posted_carries m =
    record { sealed = m.ct; inner = m.plain; names = rw m.names m.is_outer; under = m.is_ct; holds = m.is_plain }

-- ---- a new entry granted to a knower that got nothing before: its handle names it, being above those that the knower has
names_is : (t : Table) (k h e : ℕ) → h ≢ 0 → handle t k e ≡ h → names t k h e ≡ true
unfolding names
names_is t k h e n q = rw (ne_eqb h 0 n) (eq-eqb (handle t k e) h q)

names_not : (t : Table) (k h e : ℕ) → h ≢ 0 → handle t k e ≢ h → names t k h e ≡ false
unfolding names
names_not t k h e n q = rw (ne_eqb h 0 n) (ne_eqb (handle t k e) h q)

module _ (t : Table) (sh : Shaped t) (some : 1 ≤ used t) (s : Table) (g : Grows t s) (room : used s ≤ capacity t) (k : ℕ) (knower : k ≤ most t)
    (silent : Untouched k t s) (e : ℕ) (new : used t < e) (uses : e ≤ used s) where
  new_handle : handle (grant s k e) k e ≡ next_handle t k
  new_handle =
      sized_handle (sized_grows g room (sized_shaped sh)) k e (record { low = omega arith; high = uses }) (omega (arith, grows_most g))
      (none_holds s k e (silent.fresh e new uses))
      ∙ silent.counter

  next_some : 1 ≤ next_handle t k
  next_some = let h : handle t k 1 < next_handle t k = sh.below k 1 (record { low = omega arith; high = some }) in omega arith

  old_handle : (x : ℕ) → 1 ≤ x → x < e → handle (grant s k e) k x < next_handle t k
  old_handle x low high = rw (grant_handle_other s k e k x low (λ q r. omega arith)) (go (dec_le x (used t)))
    where
      go : Dec (x ≤ used t) → handle s k x < next_handle t k
      go (yes h) = let u : Used t x = record { low = low; high = h } in rw (silent.old x u) (sh.below k x u)
      go (no h) = rw (silent.fresh x (omega arith) (omega arith)) (omega (arith, next_some))

  pub new_named : entry_of (grant s k e) k (handle (grant s k e) k e) ≡ e
  unfolding entry_of
  new_named =
      rw new_handle
      (lowest_first (names (grant s k e) k (next_handle t k)) (used (grant s k e)) e (omega arith) (omega (arith, grant_used s k e (omega arith)))
      (names_is (grant s k e) k (next_handle t k) e (λ z. omega (arith, next_some)) new_handle)
      (λ x a b. names_not (grant s k e) k (next_handle t k) x (λ z. omega (arith, next_some)) (λ q. omega (arith, old_handle x a b, q))))

-- ---- sending a list that was made
module _ (t : Table) (sh : Shaped t) (p q : ℕ) (person : Person t p) (known xs : List ℕ) (real : (x : ℕ) → Memᴰ x known → 1 ≤ x)
    (inner : Made) (l : ℕ) (made : Creates t (list xs) inner) (room : used inner.table + 2 ≤ capacity t) where
  sealed : Made
  sealed = make inner.table (ciphertext (public_key_of q) inner.entry) (ciphertext_length l)

  sealed_used : used sealed.table ≡ used inner.table + 1
  unfolding sealed arguments_of
  sealed_used = make_used t sh inner.table made.grows _ (ciphertext_length l) (omega arith) (omega arith)

  sealed_creates : Creates inner.table (ciphertext (public_key_of q) inner.entry) sealed
  unfolding sealed arguments_of
  sealed_creates = make_creates t sh inner.table made.grows _ (ciphertext_length l) (omega arith) (omega arith)

  sealed_grows : Grows t sealed.table
  sealed_grows = grows_trans made.grows sealed_creates.grows

  wrapped : Made
  wrapped = make sealed.table (list (sealed.entry ∷ [])) (list_length (ciphertext_length l))

  wrapped_used : used wrapped.table ≡ used inner.table + 2
  unfolding wrapped arguments_of
  wrapped_used =
      make_used t sh sealed.table sealed_grows _ (list_length (ciphertext_length l)) (omega arith) (omega (arith, sealed_used))
      ∙ omega (arith, sealed_used)

  wrapped_entry : wrapped.entry ≡ used inner.table + 2
  unfolding wrapped arguments_of
  wrapped_entry =
      make_entry t sh sealed.table sealed_grows (list (sealed.entry ∷ [])) (list_length (ciphertext_length l)) (omega arith) (omega (arith, sealed_used))
      ∙ omega (arith, sealed_used)

  wrapped_creates : Creates sealed.table (list (sealed.entry ∷ [])) wrapped
  unfolding wrapped arguments_of
  wrapped_creates = make_creates t sh sealed.table sealed_grows _ (list_length (ciphertext_length l)) (omega arith) (omega (arith, sealed_used))

  wrapped_grows : Grows t wrapped.table
  wrapped_grows = grows_trans sealed_grows wrapped_creates.grows

  wrapped_silent : (k : ℕ) → Untouched k t wrapped.table
  wrapped_silent k =
      untouched_trans sealed_grows (untouched_trans made.grows (made.silent k) (sealed_creates.silent k)) (wrapped_creates.silent k)

  given : List ℕ
  given = known ++ (inner.entry ∷ sealed.entry ∷ wrapped.entry ∷ [])

  given_real : (x : ℕ) → Memᴰ x given → 1 ≤ x
  unfolding given
  given_real = each_append Real known real
      (each_cons Real made.uses.low (each_cons Real sealed_creates.uses.low
      (each_cons Real wrapped_creates.uses.low (each_none Real))))

  granted : Table
  granted = grant_each wrapped.table p given

  granted_used : used granted ≡ used inner.table + 2
  unfolding granted
  granted_used = each_used wrapped.table p given given_real ∙ wrapped_used

  later_grows : Grows wrapped.table granted
  unfolding granted
  later_grows = each_grows wrapped.table p given given_real

  granted_grows : Grows t granted
  granted_grows = grows_trans wrapped_grows later_grows

  -- whoever is not p got nothing by then
  granted_silent : (k : ℕ) → k ≢ p → Untouched k t granted
  unfolding granted
  granted_silent k n = untouched_trans wrapped_grows (wrapped_silent k) (each_untouched wrapped.table p k given given_real n)

  done : Table
  done = grant granted 0 wrapped.entry

  done_grows : Grows granted done
  unfolding done
  done_grows = grant_grows granted 0 wrapped.entry wrapped_creates.uses.low

  not_zero : 0 ≢ p
  not_zero z = omega (arith, person.low)

  done_after : Grows wrapped.table done
  done_after = grows_trans later_grows done_grows

  zero_holds : (e : ℕ) → Holds done 0 e → Holds t 0 e ⊎ (e ≡ wrapped.entry)
  unfolding done
  zero_holds e h = go (grant_holds granted 0 wrapped.entry wrapped_creates.uses.low e h)
    where
      go : Holds granted 0 e ⊎ (e ≡ wrapped.entry) → Holds t 0 e ⊎ (e ≡ wrapped.entry)
      go (inl i) = inl (untouched_holds (granted_silent 0 not_zero) e i)
      go (inr z) = inr z

  sender_holds : (e : ℕ) → Holds done p e → Holds t p e ⊎ Memᴰ e given
  unfolding done granted
  sender_holds e h =
      go (each_holds wrapped.table p given given_real e
      (untouched_holds (grant_untouched granted 0 p wrapped.entry wrapped_creates.uses.low (λ z. not_zero (sym z))) e h))
    where
      go : Holds wrapped.table p e ⊎ Memᴰ e given → Holds t p e ⊎ Memᴰ e given
      go (inl i) = inl (untouched_holds (wrapped_silent p) e i)
      go (inr i) = inr i

  send_is : send p q known inner l ≡ gives (sent p q (handle done 0 wrapped.entry)) done
  unfolding send sealed wrapped given granted done
  send_is = refl

  pub send_used : used (send p q known inner l).table ≡ used inner.table + 2
  unfolding done
  send_used = rw send_is (grant_used granted 0 wrapped.entry wrapped_creates.uses.low ∙ granted_used)

  pub send_grows : Grows inner.table (send p q known inner l).table
  send_grows = rw send_is (grows_trans sealed_creates.grows (grows_trans wrapped_creates.grows done_after))

  pub send_posted : Posted t p q known xs (send p q known inner l)
  unfolding done given
  send_posted = rw send_is (record {
    handed = handle done 0 wrapped.entry;
    outer = wrapped.entry;
    ct = sealed.entry;
    plain = inner.entry;
    told = refl;
    grows = grows_trans granted_grows done_grows;
    is_outer = creates_stays wrapped_creates done_after;
    is_ct = creates_stays sealed_creates (grows_trans wrapped_creates.grows done_after);
    is_plain = creates_stays made (grows_trans sealed_creates.grows (grows_trans wrapped_creates.grows done_after));
    names = new_named t sh (omega (arith, sh.keyed, person.low, person.high)) granted granted_grows (omega (arith, granted_used)) 0 (omega arith)
        (granted_silent 0 not_zero) wrapped.entry (omega (arith, wrapped_entry, made.grows.more)) (omega (arith, granted_used, wrapped_entry));
    to_zero = zero_holds;
    to_p = sender_holds;
    others = λ k n m.
        untouched_trans granted_grows (granted_silent k m) (grant_untouched granted 0 k wrapped.entry wrapped_creates.uses.low n);
  })

-- ---- a new nonce and the sender's name, after what is repeated
pub record Named (t : Table) (p q : ℕ) (known repeated : List ℕ) (o : Outcome) : Type 0 where
  pub new : ℕ
  pub name : ℕ
  pub posted : Posted t p q (known ++ (new ∷ name ∷ [])) (repeated ++ (new ∷ name ∷ [])) o
  pub is_fresh : term_in t new ≡ blank
  pub is_nonce : term_in o.table new ≡ nonce p q
  pub is_name : term_in o.table name ≡ datum p
  pub count : used o.table ≡ used t + length (named_lengths t p repeated)

module _ (t : Table) (sh : Shaped t) (p q : ℕ) (person : Person t p) (known repeated : List ℕ) (real : (x : ℕ) → Memᴰ x known → 1 ≤ x)
    (few : length repeated ≤ 2) (room : used t + length (named_lengths t p repeated) ≤ capacity t) where
  asked : length (named_lengths t p repeated) ≡ 4 + length (unless_found (find_datum t p) datum_length)
  asked = named_count t p repeated

  fresh : Made
  fresh = make t (nonce p q) nonce_length

  fresh_used : used fresh.table ≡ used t + 1
  unfolding fresh arguments_of
  fresh_used = make_used t sh t (grows_refl t) (nonce p q) nonce_length (omega arith) (omega (arith, asked))

  fresh_entry : fresh.entry ≡ used t + 1
  unfolding fresh arguments_of
  fresh_entry = make_entry t sh t (grows_refl t) (nonce p q) nonce_length (omega arith) (omega (arith, asked))

  fresh_creates : Creates t (nonce p q) fresh
  unfolding fresh arguments_of
  fresh_creates = make_creates t sh t (grows_refl t) (nonce p q) nonce_length (omega arith) (omega (arith, asked))

  found_name : Found fresh.table (datum p) (find_datum t p)
  found_name = found_later fresh_creates.grows (datum_found t p)

  own : Made
  own = make_unless (find_datum t p) fresh.table (datum p) datum_length

  own_used : used own.table ≡ used t + 1 + length (unless_found (find_datum t p) datum_length)
  unfolding own arguments_of
  own_used =
      unless_used t sh fresh.table fresh_creates.grows _ datum_length (omega arith) (find_datum t p) found_name (omega (arith, asked, fresh_used))
      ∙ omega (arith, fresh_used)

  own_creates : Creates fresh.table (datum p) own
  unfolding own arguments_of
  own_creates =
      unless_creates t sh fresh.table fresh_creates.grows _ datum_length (omega arith) (find_datum t p) found_name (omega (arith, asked, fresh_used))

  own_grows : Grows t own.table
  own_grows = grows_trans fresh_creates.grows own_creates.grows

  contents : List ℕ
  contents = repeated ++ (fresh.entry ∷ own.entry ∷ [])

  contents_few : length (arguments_of (list contents)) ≤ 4
  unfolding contents arguments_of
  contents_few = rw length-append (omega arith)

  inside : Made
  inside = make own.table (list contents) (named_length t repeated)

  inside_used : used inside.table + 2 ≡ used t + length (named_lengths t p repeated)
  unfolding inside
  inside_used =
      let u = make_used t sh own.table own_grows (list contents) (named_length t repeated) contents_few (omega (arith, asked, own_used)) in
      omega (arith, u, asked, own_used)

  inside_creates : Creates own.table (list contents) inside
  unfolding inside
  inside_creates = make_creates t sh own.table own_grows (list contents) (named_length t repeated) contents_few (omega (arith, asked, own_used))

  inside_made : Creates t (list contents) inside
  inside_made = creates_after own_grows (λ k. untouched_trans fresh_creates.grows (fresh_creates.silent k) (own_creates.silent k)) inside_creates

  knows : List ℕ
  knows = known ++ (fresh.entry ∷ own.entry ∷ [])

  knows_real : (x : ℕ) → Memᴰ x knows → 1 ≤ x
  unfolding knows
  knows_real = each_append Real known real
      (each_cons Real fresh_creates.uses.low (each_cons Real own_creates.uses.low (each_none Real)))

  named_is : send_named t p q known repeated ≡ send p q knows inside (named_length t repeated)
  unfolding send_named knows inside contents own fresh
  named_is = refl

  named_posted : Posted t p q knows contents (send p q knows inside (named_length t repeated))
  named_posted = send_posted t sh p q person knows contents knows_real inside (named_length t repeated) inside_made (omega (arith, inside_used))

  after_used : used (send p q knows inside (named_length t repeated)).table ≡ used t + length (named_lengths t p repeated)
  after_used =
      send_used t sh p q person knows contents knows_real inside (named_length t repeated) inside_made (omega (arith, inside_used)) ∙ inside_used

  after : Grows inside.table (send p q knows inside (named_length t repeated)).table
  after = send_grows t sh p q person knows contents knows_real inside (named_length t repeated) inside_made (omega (arith, inside_used))

  pub named_sent : Named t p q known repeated (send_named t p q known repeated)
  unfolding knows contents
  named_sent = rw named_is (record {
    new = fresh.entry;
    name = own.entry;
    posted = named_posted;
    is_fresh = term_out t fresh.entry (omega (arith, fresh_entry));
    is_nonce = creates_stays fresh_creates (grows_trans own_creates.grows (grows_trans inside_creates.grows after));
    is_name = creates_stays own_creates (grows_trans inside_creates.grows after);
    count = after_used;
  })

-- ---- the list of x alone, found or made
module _ (t : Table) (sh : Shaped t) (p q : ℕ) (person : Person t p) (known : List ℕ) (real : (x : ℕ) → Memᴰ x known → 1 ≤ x) (x l : ℕ)
    (room : used t + length (unless_found (find_list t (x ∷ [])) l ++ sealed_lengths l) ≤ capacity t) where
  alone : Made
  alone = make_unless (find_list t (x ∷ [])) t (list (x ∷ [])) l

  alone_room : length (unless_found (find_list t (x ∷ [])) l ++ sealed_lengths l) ≡ 2 + length (unless_found (find_list t (x ∷ [])) l)
  alone_room = alone_count (find_list t (x ∷ [])) l

  alone_used : used alone.table + 2 ≡ used t + length (unless_found (find_list t (x ∷ [])) l ++ sealed_lengths l)
  unfolding alone arguments_of
  alone_used =
      let u = unless_used t sh t (grows_refl t) (list (x ∷ [])) l (omega arith) _ (list_found t (x ∷ [])) (omega (arith, alone_room)) in
      omega (arith, u, alone_room)

  alone_creates : Creates t (list (x ∷ [])) alone
  unfolding alone arguments_of
  alone_creates = unless_creates t sh t (grows_refl t) (list (x ∷ [])) l (omega arith) _ (list_found t (x ∷ [])) (omega (arith, alone_room))

  pub alone_sent : Posted t p q known (x ∷ []) (send p q known (make_unless (find_list t (x ∷ [])) t (list (x ∷ [])) l) l)
  unfolding alone
  alone_sent = send_posted t sh p q person known (x ∷ []) real alone l alone_creates (omega (arith, alone_used))
