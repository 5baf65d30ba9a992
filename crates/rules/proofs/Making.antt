-- The entries that an honest step makes fit one after the other, and what it grants is no secret key, so sending keeps a table well
-- formed. Assumes nothing.
use Rattle.std.specs.Prelude.{if◌then◌else◌}
use Prim.Native.Nat.{ℕ, ◌+◌, ◌-◌, ◌≤◌, ◌<◌}
use native.Mathlib.Omega.{arith}
use mathlib.Core.Path.{◌≡◌, refl, sym, ap, ◌∙◌}
use mathlib.Core.Logic.{◌≢◌, inl, inr}
use mathlib.Core.Bool.{Bool, true, false}
use mathlib.Core.List.Memᴰ
use mathlib.Core.List.{List, [], ◌∷◌, ◌++◌}
use lib.Dec.{eqb}
use lib.ListN.{length, length-append}
use borrow.Author.Tests.{leb-true, eqb-true, eqb-false}
use Rattle.rules.specs.Choice.{every, sum_of}
use Rattle.rules.specs.Table.{Table, capacity, used, type_at, length_at, honest}
use Rattle.rules.specs.Terms.{Term, datum, nonce, list, ciphertext, data_type, nonce_type, list_type, ciphertext_type, secret_key_type, type_of, is_list, elements, term_at, longest, datum_length, nonce_length, list_length, ciphertext_length, length_of, public_key_of, new_entry, create, is_datum_of, find_datum, is_list_of, find_list}
use Rattle.rules.specs.Handles.{grant_each}
use Rattle.rules.specs.Outcome.{is_short}
use Rattle.rules.specs.Steps.{Made, make, make_unless, unless_found, sealed_lengths, send, named_length, named_lengths, send_named, alone_length}
use Rattle.rules.proofs.Logic.{and_left, and_right, every_at, sum_same, sum_append, same_true}
use Rattle.rules.proofs.Walks.{lowest_found_at}
use Rattle.rules.proofs.Shaped.{Used, Person}
use Rattle.rules.proofs.Grows.{Grows, grows_refl, grows_trans, grows_honest}
use Rattle.rules.proofs.Holding.{each_grows}
use Rattle.rules.proofs.Formed.{Formed}
use Rattle.rules.proofs.Shaping.{length_at_lem}
use Rattle.rules.proofs.Rows.{row_length}
use Rattle.rules.proofs.Entries.{Open, AllOpen, open_none, open_more, open_both, a_datum, a_nonce, a_list, a_ciphertext, Fits, parts_few, used_grows, word_grows, person_grows, open_grows, all_grow}
use Rattle.rules.proofs.Forming.{create_leaves, create_formed, create_type, holder_grows, grant_formed, each_formed}

-- entry e is used, of type y and length l
pub record Has (t : Table) (e y l : ℕ) : Type 0 where
  pub uses : Used t e
  pub type : type_at t e ≡ y
  pub long : length_at t e ≡ l

pub has_open : (t : Table) (e y l : ℕ) → y ≢ secret_key_type → Has t e y l → Open t e
has_open t e y l n h = record { uses = h.uses; other = λ q. n (sym h.type ∙ q) }

has_grows : {t t' : Table} → Grows t t' → (e y l : ℕ) → Has t e y l → Has t' e y l
has_grows g e y l h = record {
  uses = used_grows g e h.uses;
  type = word_grows g e 0 h.uses (omega arith) ∙ h.type;
  long = word_grows g e 6 h.uses (omega arith) ∙ h.long;
}

-- what was made after table t, in n new entries, is an entry of type y and length l
pub record Well (t : Table) (m : Made) (n y l : ℕ) : Type 0 where
  pub formed : Formed m.table
  pub grows : Grows t m.table
  pub count : used m.table ≡ used t + n
  pub has : Has m.table m.entry y l

make_well : (t : Table) → Formed t → (x : Term) (l : ℕ) → Fits t x l → used t < capacity t → Well t (make t x l) 1 (type_of x) l
unfolding make
make_well t f x l h more = record {
  formed = create_formed t f x l h more;
  grows = (create_leaves t f x l h more).grows;
  count = (create_leaves t f x l h more).one;
  has = record {
    uses = (create_leaves t f x l h more).uses;
    type = create_type t f x l h more;
    long = row_length (create t x l) (new_entry t) x l (create_leaves t f x l h more).reads (parts_few t x h.parts);
  };
}

-- found before, or made
unless_well : (t : Table) → Formed t → (found : ℕ) (x : Term) (l : ℕ) → (found ≢ 0 → Has t found (type_of x) l) → Fits t x l
    → used t + length (unless_found found l) ≤ capacity t → Well t (make_unless found t x l) (length (unless_found found l)) (type_of x) l
unfolding make_unless unless_found
unless_well t f found x l old h = go (eqb found 0) refl
  where
    go : (b : Bool) → eqb found 0 ≡ b → used t + length (if b then l ∷ [] else []) ≤ capacity t
        → Well t (if b then make t x l else record { entry = found; table = t }) (length (if b then l ∷ [] else [])) (type_of x) l
    go true q more = make_well t f x l h (omega arith)
    go false q more = record { formed = f; grows = grows_refl t; count = omega arith; has = old (eqb-false found 0 q) }

-- ---- a list, sealed and sent
sealed_fits : (t : Table) (q e l : ℕ) → Person t q → Has t e list_type l → ciphertext_length l ≤ longest
    → Fits t (ciphertext (public_key_of q) e) (ciphertext_length l)
unfolding length_of
sealed_fits t q e l w h s = record {
  parts = a_ciphertext q e w h.uses h.type;
  long = rw h.long refl;
  short = s;
}

alone_fits : (t : Table) (e l : ℕ) → Open t e → length_at t e ≡ l → list_length l ≤ longest → Fits t (list (e ∷ [])) (list_length l)
unfolding length_of sum_of
alone_fits t e l o q s = record {
  parts = a_list (e ∷ []) (omega arith) (omega arith) (open_more t e [] o (open_none t));
  long = ap list_length (omega arith);
  short = s;
}

module _ (p q : ℕ) (known : List ℕ) (inner : Made) (l : ℕ) where
  abbrev sealed : Made
  sealed = make inner.table (ciphertext (public_key_of q) inner.entry) (ciphertext_length l)

  abbrev outer : Made
  outer = make sealed.table (list (sealed.entry ∷ [])) (list_length (ciphertext_length l))

  abbrev granted : List ℕ
  granted = known ++ (inner.entry ∷ sealed.entry ∷ outer.entry ∷ [])

  module _ (f : Formed inner.table) (has : Has inner.table inner.entry list_type l) (who : honest inner.table p ≡ true)
      (peer : Person inner.table q) (opens : AllOpen inner.table known) (room : used inner.table + 2 ≤ capacity inner.table)
      (short : list_length (ciphertext_length l) ≤ longest) where
    sealed_well : Well inner.table sealed 1 ciphertext_type (ciphertext_length l)
    unfolding type_of list_length
    sealed_well =
        let small : ciphertext_length l ≤ longest = omega arith in
        make_well inner.table f _ _ (sealed_fits inner.table q inner.entry l peer has small) (omega arith)

    sealed_open : Open sealed.table sealed.entry
    sealed_open = has_open sealed.table sealed.entry ciphertext_type (ciphertext_length l) (λ z. omega arith) sealed_well.has

    outer_well : Well sealed.table outer 1 list_type (list_length (ciphertext_length l))
    unfolding type_of
    outer_well =
        make_well sealed.table sealed_well.formed _ _
        (alone_fits sealed.table sealed.entry (ciphertext_length l) sealed_open sealed_well.has.long short)
        (omega (arith, sealed_well.count, sealed_well.grows.head 3 (omega arith)))

    outer_open : Open outer.table outer.entry
    outer_open = has_open outer.table outer.entry list_type (list_length (ciphertext_length l)) (λ z. omega arith) outer_well.has

    sent_later : Grows inner.table outer.table
    sent_later = grows_trans sealed_well.grows outer_well.grows

    granted_open : AllOpen outer.table granted
    granted_open =
        let o : Open inner.table inner.entry = has_open inner.table inner.entry list_type l (λ z. omega arith) has in
        open_both outer.table known _ (all_grow sent_later known opens)
        (open_more outer.table inner.entry _ (open_grows sent_later inner.entry o)
        (open_more outer.table sealed.entry _ (open_grows outer_well.grows sealed.entry sealed_open)
        (open_more outer.table outer.entry _ outer_open (open_none outer.table))))

    pub send_formed : Formed (send p q known inner l).table
    unfolding send
    send_formed =
        let g = each_grows outer.table p granted (λ x i. (granted_open x i).uses.low) in
        grant_formed (grant_each outer.table p granted)
        (each_formed outer.table outer_well.formed p granted granted_open (holder_grows sent_later p (inr who)))
        0 outer.entry (open_grows g outer.entry outer_open) (inl refl)

-- ---- an entry that is found
pub found_datum : (t : Table) → Formed t → (v : ℕ) → find_datum t v ≢ 0 → Has t (find_datum t v) data_type datum_length
unfolding find_datum is_datum_of term_at length_of
found_datum t f v n =
    let w = lowest_found_at (is_datum_of t v) (used t) n in
    let u : Used t (find_datum t v) = record { low = w.0; high = w.1 } in
    let y : type_at t (find_datum t v) ≡ data_type = eqb-true _ _ (and_left _ _ w.2) in
    record { uses = u; type = y; long = length_at_lem t f (find_datum t v) u ∙ rw y refl }

pub found_list : (t : Table) → Formed t → (xs : List ℕ) → find_list t xs ≢ 0 → Has t (find_list t xs) list_type (list_length (sum_of (length_at t) xs))
unfolding find_list is_list_of term_at length_of
found_list t f xs n =
    let w = lowest_found_at (is_list_of t xs) (used t) n in
    let e = find_list t xs in
    let u : Used t e = record { low = w.0; high = w.1 } in
    let y : type_at t e ≡ list_type = eqb-true _ _ (and_left _ _ w.2) in
    let s : elements t e ≡ xs = same_true _ _ (and_right (is_list t e) _ w.2) in
    record { uses = u; type = y; long = length_at_lem t f e u ∙ rw (y, s) refl }

-- ---- a new nonce and the own name, after what is repeated, and sent
module _ (t : Table) (p q : ℕ) (known repeated : List ℕ) where
  abbrev nonced : Made
  nonced = make t (nonce p q) nonce_length

  abbrev extra : ℕ
  extra = length (unless_found (find_datum t p) datum_length)

  abbrev named : Made
  named = make_unless (find_datum t p) nonced.table (datum p) datum_length

  abbrev listed : List ℕ
  listed = repeated ++ (nonced.entry ∷ named.entry ∷ [])

  abbrev inner : Made
  inner = make named.table (list listed) (named_length t repeated)

  module _ (f : Formed t) (who : honest t p ≡ true) (self : Person t p) (peer : Person t q) (opens : AllOpen t known)
      (again : AllOpen t repeated) (few : length repeated ≤ 2) (short : every is_short (named_lengths t p repeated) ≡ true)
      (room : length (named_lengths t p repeated) ≤ capacity t - used t) where
    named_room : used t + 1 + extra + 1 + 2 ≤ capacity t
    unfolding named_lengths sealed_lengths
    named_room =
        let l = named_length t repeated in
        omega (arith, f.room, length-append (unless_found (find_datum t p) datum_length) (l ∷ sealed_lengths l))

    named_short : list_length (ciphertext_length (named_length t repeated)) ≤ longest
    unfolding named_lengths sealed_lengths is_short
    named_short =
        leb-true _ _ (every_at is_short (named_lengths t p repeated) short _
        (Memᴰ.tail (Memᴰ.append_right (unless_found (find_datum t p) datum_length) (Memᴰ.tail (Memᴰ.tail (Memᴰ.head refl))))))

    nonce_well : Well t nonced 1 nonce_type nonce_length
    unfolding type_of length_of nonce_length longest
    nonce_well = make_well t f (nonce p q) nonce_length
        (record { parts = a_nonce p q self.high peer.high; long = refl; short = omega arith }) (omega (arith, named_room))

    name_well : Well nonced.table named extra data_type datum_length
    unfolding type_of length_of datum_length longest
    name_well = unless_well nonced.table nonce_well.formed (find_datum t p) (datum p) datum_length
        (λ z. has_grows nonce_well.grows (find_datum t p) data_type datum_length (found_datum t f p z))
        (record { parts = a_datum p; long = refl; short = omega arith })
        (omega (arith, named_room, nonce_well.count, nonce_well.grows.head 3 (omega arith)))

    -- the nonce and the name, in the table of both
    later : Grows t named.table
    later = grows_trans nonce_well.grows name_well.grows

    nonce_has : Has named.table nonced.entry nonce_type nonce_length
    nonce_has = has_grows name_well.grows nonced.entry nonce_type nonce_length nonce_well.has

    two_open : AllOpen named.table (nonced.entry ∷ named.entry ∷ [])
    two_open =
        open_more named.table nonced.entry _ (has_open named.table nonced.entry nonce_type nonce_length (λ z. omega arith) nonce_has)
        (open_more named.table named.entry _ (has_open named.table named.entry data_type datum_length (λ z. omega arith) name_well.has)
        (open_none named.table))

    listed_long : named_length t repeated ≡ length_of named.table (list listed)
    unfolding named_length length_of sum_of
    listed_long =
        ap list_length (omega (
          arith,
          sum_append (length_at named.table) repeated (nonced.entry ∷ named.entry ∷ []),
          sum_same (length_at named.table) (length_at t) repeated (λ x i. word_grows later x 6 (again x i).uses (omega arith)),
          nonce_has.long,
          name_well.has.long,
        ))

    inner_well : Well named.table inner 1 list_type (named_length t repeated)
    unfolding type_of list_length ciphertext_length
    inner_well =
        let size : length listed ≡ length repeated + 2 = length-append repeated (nonced.entry ∷ named.entry ∷ []) in
        make_well named.table name_well.formed (list listed) (named_length t repeated)
        (record {
          parts = a_list listed (omega arith) (omega arith) (open_both named.table repeated _ (all_grow later repeated again) two_open);
          long = listed_long;
          short = omega (arith, named_short);
        })
        (omega (arith, named_room, nonce_well.count, name_well.count, later.head 3 (omega arith)))

    pub named_formed : Formed (send_named t p q known repeated).table
    unfolding send_named
    named_formed =
        let g : Grows t inner.table = grows_trans later inner_well.grows in
        send_formed p q (known ++ (nonced.entry ∷ named.entry ∷ [])) inner (named_length t repeated) inner_well.formed inner_well.has
        (grows_honest g p ∙ who) (person_grows g q peer)
        (all_grow inner_well.grows _ (open_both named.table known _ (all_grow later known opens) two_open))
        (omega (arith, named_room, nonce_well.count, name_well.count, inner_well.count, g.head 3 (omega arith)))
        named_short

-- ---- an element alone, and sent
module _ (t : Table) (p q : ℕ) (known : List ℕ) (x : ℕ) where
  abbrev alone : ℕ
  alone = find_list t (x ∷ [])

  abbrev news : List ℕ
  news = unless_found alone (alone_length t x) ++ sealed_lengths (alone_length t x)

  abbrev listed_alone : Made
  listed_alone = make_unless alone t (list (x ∷ [])) (alone_length t x)

  module _ (f : Formed t) (who : honest t p ≡ true) (peer : Person t q) (opens : AllOpen t known) (o : Open t x)
      (short : every is_short news ≡ true) (room : length news ≤ capacity t - used t) where
    alone_short : list_length (ciphertext_length (alone_length t x)) ≤ longest
    unfolding sealed_lengths is_short
    alone_short =
        leb-true _ _ (every_at is_short news short _
        (Memᴰ.append_right (unless_found alone (alone_length t x)) (Memᴰ.tail (Memᴰ.head refl))))

    alone_room : used t + length (unless_found alone (alone_length t x)) + 2 ≤ capacity t
    unfolding sealed_lengths
    alone_room = omega (arith, f.room, length-append (unless_found alone (alone_length t x)) (sealed_lengths (alone_length t x)))

    alone_found : alone ≢ 0 → Has t alone list_type (alone_length t x)
    unfolding alone_length sum_of
    alone_found n =
        let same : length_at t x + 0 ≡ length_at t x = omega arith in
        rw same at (found_list t f (x ∷ []) n)

    alone_well : Well t listed_alone (length (unless_found alone (alone_length t x))) list_type (alone_length t x)
    unfolding type_of alone_length list_length ciphertext_length
    alone_well = unless_well t f alone (list (x ∷ [])) (alone_length t x) alone_found
        (alone_fits t x (length_at t x) o refl (omega (arith, alone_short))) (omega (arith, alone_room))

    pub alone_formed : Formed (send p q known listed_alone (alone_length t x)).table
    alone_formed =
        let g = alone_well.grows in
        send_formed p q known listed_alone (alone_length t x) alone_well.formed alone_well.has
        (grows_honest g p ∙ who) (person_grows g q peer) (all_grow g known opens)
        (omega (arith, alone_room, alone_well.count, g.head 3 (omega arith))) alone_short
