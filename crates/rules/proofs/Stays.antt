-- Every request keeps a table well formed: what it makes fits, by the tests that it passed, and what it grants is no secret key, since
-- it lists, opens or projects nothing of that kind. Assumes nothing.
use Rattle.std.specs.Prelude.{if◌then◌else◌}
use Prim.Native.Nat.{ℕ, zero, suc, ◌-◌, ◌≤◌, ◌<◌}
use native.Mathlib.Omega.{arith}
use mathlib.Core.Path.{◌≡◌, refl, sym, ◌∙◌}
use mathlib.Core.Logic.{◌≢◌, inl, inr}
use mathlib.Core.Bool.{Bool, true, false, not}
use mathlib.Core.List.Memᴰ
use mathlib.Core.List.{List, [], ◌∷◌, map, Memᴰ}
use lib.Dec.{eqb, leb}
use lib.ListN.{length, take, length-map}
use lib.Seq.{length-take-le}
use borrow.Author.Tests.{leb-true, eqb-true, eqb-false, not-true}
use Rattle.rules.specs.Choice.{◌and◌, every}
use Rattle.rules.specs.Table.{Table, capacity, used, type_at, count_at, argument, arguments, is_participant, honest}
use Rattle.rules.specs.Terms.{Term, datum, nonce, list, ciphertext, data_type, list_type, ciphertext_type, is_secret_key, is_public_key, elements, length_of, new_entry, create, is_datum_of, is_nonce_of, find_datum, find_list}
use Rattle.rules.specs.Handles.{entry_of, names, holds_handle}
use Rattle.rules.specs.WellFormed.{well_formed}
use Rattle.rules.specs.Outcome.{Outcome, need, is_short, need_room, gives_handle}
use Rattle.rules.specs.Commands.{give_new, give_found_or_new, store, new_nonce, list_is_asked, may_be_listed, make_list_of, make_list, is_place, project_of, project, encrypt_of, encrypt, decrypt_of, decrypt, parse_of, parse}
use Rattle.rules.specs.Steps.{may_act, named_lengths, send_named, start, Message, first, second, third, none, read_one, read_two, read_more, read_list, is_for, sealed_in, plain_in, read_message, opened, answer_first, answer_second, answer_message, deliver_list, deliver}
use Rattle.rules.specs.Machine.{Request, Start, Deliver, Store, Nonce, MakeList, Project, Encrypt, Decrypt, Parse, act, step, run, table_after}
use Rattle.rules.proofs.Logic.{and_left, and_right, every_at, take_mem, mem_take}
use Rattle.rules.proofs.Walks.{lowest_found_at}
use Rattle.rules.proofs.Shaped.{Used, Person}
use Rattle.rules.proofs.Formed.{Formed, formed, well_formed_lem}
use Rattle.rules.proofs.Shaping.{participant_person, shape}
use Rattle.rules.proofs.Entries.{Open, AllOpen, open_none, open_more, Parts, a_datum, a_nonce, a_list, a_ciphertext, Fits}
use Rattle.rules.proofs.Forming.{create_formed, create_open, grant_formed, each_formed}
use Rattle.rules.proofs.Making.{has_open, found_datum, found_list, named_formed, alone_formed}

-- ---- refusals leave the table
need_formed : (b : Bool) (k : ℕ) (t : Table) (rest : Outcome) → Formed t → (b ≡ true → Formed rest.table) → Formed (need b k t rest).table
unfolding need
need_formed true k t rest f h = h refl
need_formed false k t rest f h = f

room_formed : (t : Table) (lengths : List ℕ) (rest : Outcome) → Formed t
    → (every is_short lengths ≡ true → length lengths ≤ capacity t - used t → Formed rest.table) → Formed (need_room t lengths rest).table
unfolding need_room
room_formed t lengths rest f h =
    need_formed _ 9 t _ f (λ a. need_formed _ 10 t rest f (λ b. h a (leb-true (length lengths) (capacity t - used t) b)))

handle_formed : (t : Table) → Formed t → (e : ℕ) → Open t e → Formed (gives_handle t e).table
unfolding gives_handle
handle_formed t f e o = grant_formed t f 0 e o (inl refl)

-- ---- what a handle names, and what a list contains
pub named_used : (t : Table) (k h : ℕ) → holds_handle t k h ≡ true → Used t (entry_of t k h)
unfolding holds_handle entry_of
named_used t k h p =
    let w = lowest_found_at (names t k h) (used t) (eqb-false _ _ (not-true _ p)) in
    record { low = w.0; high = w.1 }

pub argument_in : (t : Table) (e i : ℕ) → 1 ≤ i → i ≤ 4 → i ≤ count_at t e → Memᴰ (argument t e i) (elements t e)
unfolding elements arguments
argument_in t e zero a b c = absurd (omega arith)
argument_in t e (suc zero) a b c = mem_take (count_at t e) (arguments t e) 0 (omega arith) (omega arith)
argument_in t e (suc (suc zero)) a b c = mem_take (count_at t e) (arguments t e) 1 (omega arith) (omega arith)
argument_in t e (suc (suc (suc zero))) a b c = mem_take (count_at t e) (arguments t e) 2 (omega arith) (omega arith)
argument_in t e (suc (suc (suc (suc zero)))) a b c = mem_take (count_at t e) (arguments t e) 3 (omega arith) (omega arith)
argument_in t e (suc (suc (suc (suc (suc i))))) a b c = absurd (omega arith)

-- what a message that is taken hands on
data Took (t : Table) (l : ℕ) : Message → Type 0 where
  took_first : (x : ℕ) → AllOpen t (opened t l) → Open t x → Took t l (first x)
  took_second : (x : ℕ) → AllOpen t (opened t l) → Open t x → Took t l (second x)
  took_third : AllOpen t (opened t l) → Took t l third
  took_none : Took t l none

module _ (t : Table) (f : Formed t) where
  elements_open : (e : ℕ) → Used t e → type_at t e ≡ list_type → AllOpen t (elements t e)
  elements_open e u y x i =
      let w = (shape t f).list_elements e u y x i in
      record { uses = record { low = w.0; high = omega (arith, w.1, u.high) }; other = w.2 }

  argument_open : (e i : ℕ) → Used t e → type_at t e ≡ list_type → 1 ≤ i → i ≤ count_at t e → Open t (argument t e i)
  argument_open e i u y a b =
      elements_open e u y (argument t e i) (argument_in t e i a (omega (arith, ((shape t f).list_count e u y).1)) b)

  plain_has : (c : ℕ) → Used t c → type_at t c ≡ ciphertext_type → Used t (argument t c 2) × (type_at t (argument t c 2) ≡ list_type)
  plain_has c u y =
      let w = (shape t f).cipher_list c u y in
      (record { low = w.0; high = omega (arith, w.1, u.high) }, w.2)

  plain_open : (c : ℕ) → Used t c → type_at t c ≡ ciphertext_type → Open t (argument t c 2)
  plain_open c u y =
      let w = plain_has c u y in
      record { uses = w.0; other = λ q. omega (arith, w.1) }

  -- ---- the adversary's commands
  new_formed : (x : Term) → Parts t x → Formed (give_new t x).table
  unfolding give_new is_short
  new_formed x h =
      let l = length_of t x in
      room_formed t (l ∷ []) _ f (λ a b.
      let fits : Fits t x l = record { parts = h; long = refl; short = leb-true _ _ (every_at is_short (l ∷ []) a l (Memᴰ.head refl)) } in
      let more : used t < capacity t = omega arith in
      handle_formed (create t x l) (create_formed t f x l fits more) (new_entry t) (create_open t f x l fits more))

  found_formed : (e : ℕ) (x : Term) → (e ≢ 0 → Open t e) → Parts t x → Formed (give_found_or_new t e x).table
  unfolding give_found_or_new
  found_formed e x o h = go (eqb e 0) refl
    where
      go : (b : Bool) → eqb e 0 ≡ b → Formed (if b then give_new t x else gives_handle t e).table
      go true q = new_formed x h
      go false q = handle_formed t f e (o (eqb-false e 0 q))

  store_formed : (d : ℕ) → Formed (store t d).table
  unfolding store
  store_formed d =
      found_formed (find_datum t d) (datum d) (λ n. has_open t _ data_type _ (λ z. omega arith) (found_datum t f d n)) (a_datum d)

  list_formed : (es : List ℕ) → 1 ≤ length es → length es ≤ 4 → ((x : ℕ) → Memᴰ x es → Used t x) → Formed (make_list_of t es).table
  unfolding make_list_of may_be_listed
  list_formed es a b u = need_formed _ 6 t _ f (λ h. found_formed (find_list t es) (list es)
      (λ n. has_open t _ list_type _ (λ z. omega arith) (found_list t f es n))
      (a_list es a b (λ x i. record { uses = u x i; other = eqb-false _ _ (not-true _ (every_at (may_be_listed t) es h x i)) })))

  project_formed : (e i : ℕ) → Used t e → 1 ≤ i → Formed (project_of t e i).table
  unfolding project_of
  project_formed e i u a = need_formed _ 6 t _ f (λ y. need_formed _ 7 t _ f (λ b.
      handle_formed t f (argument t e i) (argument_open e i u (eqb-true _ _ y) a (leb-true _ _ b))))

  encrypt_formed : (k l : ℕ) → Used t k → Used t l → Formed (encrypt_of t k l).table
  unfolding encrypt_of
  encrypt_formed k l u v = need_formed _ 6 t _ f (λ h.
      let w = (shape t f).public_key k u (eqb-true _ _ (and_left _ _ h)) in
      new_formed (ciphertext k l) (rw w.1 (a_ciphertext (argument t k 1) l w.0 v (eqb-true _ _ (and_right (is_public_key t k) _ h)))))

  decrypt_formed : (k c : ℕ) → Used t c → Formed (decrypt_of t k c).table
  unfolding decrypt_of
  decrypt_formed k c u = need_formed _ 6 t _ f (λ h. need_formed _ 8 t _ f (λ q.
      handle_formed t f (argument t c 2) (plain_open c u (eqb-true _ _ (and_right (is_secret_key t k) _ h)))))

  -- ---- the honest steps
  start_formed : (u v : ℕ) → may_act t u v ≡ true → Formed (need_room t (named_lengths t u []) (send_named t u v [] [])).table
  unfolding may_act
  start_formed u v h =
      let h₁ = and_right (is_participant t u) _ h in
      let h₂ = and_right (is_participant t v) _ h₁ in
      room_formed t (named_lengths t u []) _ f (named_formed t u v [] [] f (and_right (not (eqb u v)) _ h₂)
      (participant_person t u (and_left _ _ h)) (participant_person t v (and_left _ _ h₁)) (open_none t) (open_none t) (omega arith))

  -- how a message is read
  opened_open : (l : ℕ) → Used t l → type_at t l ≡ list_type → Used t (sealed_in t l) → type_at t (sealed_in t l) ≡ ciphertext_type → AllOpen t (opened t l)
  unfolding opened
  opened_open l u y v z =
      let w = plain_has (sealed_in t l) v z in
      open_more t l _ (record { uses = u; other = λ q. omega arith })
      (open_more t (sealed_in t l) _ (record { uses = v; other = λ q. omega arith })
      (open_more t (plain_in t l) _ (plain_open (sealed_in t l) v z)
      (λ x i. elements_open (plain_in t l) w.0 w.1 x (take_mem 3 (elements t (plain_in t l)) x i))))

  module _ (r s l : ℕ) (all : AllOpen t (opened t l)) (e : ℕ) (u : Used t e) (y : type_at t e ≡ list_type) where
    one_took : Took t l (read_one t r s e)
    unfolding read_one
    one_took = go (is_nonce_of t r s (argument t e 1))
      where
        go : (b : Bool) → Took t l (if b then third else none)
        go true = took_third all
        go false = took_none

    two_took : 1 ≤ count_at t e → Took t l (read_two t r s e)
    unfolding read_two
    two_took h = go (is_datum_of t s (argument t e 2))
      where
        go : (b : Bool) → Took t l (if b then first (argument t e 1) else none)
        go true = took_first _ all (argument_open e 1 u y (omega arith) h)
        go false = took_none

    more_took : 2 ≤ count_at t e → Took t l (read_more t r s e)
    unfolding read_more
    more_took h = go (is_nonce_of t r s (argument t e 1) and is_datum_of t s (argument t e 3))
      where
        go : (b : Bool) → Took t l (if b then second (argument t e 2) else none)
        go true = took_second _ all (argument_open e 2 u y (omega arith) h)
        go false = took_none

    list_took : Took t l (read_list t r s e)
    unfolding read_list
    list_took = go (eqb (count_at t e) 1) (eqb (count_at t e) 2) (leb 3 (count_at t e) and leb (count_at t e) 4) refl refl
      where
        go : (a b c : Bool) → eqb (count_at t e) 2 ≡ b → leb 3 (count_at t e) and leb (count_at t e) 4 ≡ c
            → Took t l (if a then read_one t r s e else if b then read_two t r s e else if c then read_more t r s e else none)
        go true b c p q = one_took
        go false true c p q = two_took (omega (arith, eqb-true (count_at t e) 2 p))
        go false false true p q = more_took (omega (arith, leb-true 3 (count_at t e) (and_left _ _ q)))
        go false false false p q = took_none

  read_took : (r s l : ℕ) → Used t l → type_at t l ≡ list_type → Took t l (read_message t r s l)
  unfolding read_message is_for
  read_took r s l u y = go (is_for t r (sealed_in t l)) refl
    where
      go : (b : Bool) → is_for t r (sealed_in t l) ≡ b → Took t l (if b then read_list t r s (plain_in t l) else none)
      go true h =
          let v : Used t (sealed_in t l) = (argument_open l 1 u y (omega arith) ((shape t f).list_count l u y).0).uses in
          let z : type_at t (sealed_in t l) ≡ ciphertext_type = eqb-true _ _ (and_left _ _ h) in
          let w = plain_has (sealed_in t l) v z in
          list_took r s l (opened_open l u y v z) (plain_in t l) w.0 w.1
      go false h = took_none

  -- and answered
  answer_formed : (r s l : ℕ) → honest t r ≡ true → Person t r → Person t s → (m : Message) → Took t l m → Formed (answer_message t r s l m).table
  unfolding answer_message answer_first answer_second
  answer_formed r s l who self peer m (took_first x all o) =
      room_formed t (named_lengths t r (x ∷ [])) _ f
      (named_formed t r s (opened t l) (x ∷ []) f who self peer all (open_more t x [] o (open_none t)) (omega arith))
  answer_formed r s l who self peer m (took_second x all o) =
      room_formed t _ _ f (alone_formed t r s (opened t l) x f who peer all o)
  answer_formed r s l who self peer m (took_third all) = each_formed t f r (opened t l) all (inr who)
  answer_formed r s l who self peer m took_none = f

  deliver_formed : (s r l : ℕ) → may_act t r s ≡ true → Used t l → Formed (deliver_list t s r l).table
  unfolding deliver_list may_act
  deliver_formed s r l h u =
      let h₁ = and_right (is_participant t r) _ h in
      let h₂ = and_right (is_participant t s) _ h₁ in
      need_formed _ 6 t _ f (λ y. answer_formed r s l (and_right (not (eqb r s)) _ h₂)
      (participant_person t r (and_left _ _ h)) (participant_person t s (and_left _ _ h₁)) _ (read_took r s l u (eqb-true _ _ y)))

  -- ---- every request
  asked_formed : (k : ℕ) (hs : List ℕ) → length hs ≡ 4 → Formed (make_list t k hs).table
  unfolding make_list list_is_asked
  asked_formed k hs four = need_formed _ 4 t _ f (λ a. need_formed _ 5 t _ f (λ h.
      let low : 1 ≤ k = leb-true _ _ (and_left _ _ a) in
      let high : k ≤ 4 = leb-true _ _ (and_left _ _ (and_right (leb 1 k) _ a)) in
      let size : length (map (entry_of t 0) (take k hs)) ≡ k = length-map (take k hs) (entry_of t 0) ∙ length-take-le k hs (omega arith) in
      list_formed (map (entry_of t 0) (take k hs)) (omega arith) (omega arith) (λ x i.
      let w = Memᴰ.of_map (entry_of t 0) (take k hs) i in
      rw (sym w.2) (named_used t 0 w.0 (every_at (holds_handle t 0) (take k hs) h w.0 w.1)))))

  act_formed : (r : Request) → Formed (act r t).table
  unfolding act start deliver new_nonce project is_place encrypt decrypt parse parse_of
  act_formed (Start u v) = need_formed _ 3 t _ f (start_formed u v)
  act_formed (Deliver s r h) = need_formed _ 3 t _ f (λ a. need_formed _ 5 t _ f (λ b. deliver_formed s r (entry_of t 0 h) a (named_used t 0 h b)))
  act_formed (Store d) = store_formed d
  act_formed Nonce = new_formed (nonce 0 0) (a_nonce 0 0 (omega arith) (omega arith))
  act_formed (MakeList k a b c d) = asked_formed k (a ∷ b ∷ c ∷ d ∷ []) refl
  act_formed (Project h i) = need_formed _ 4 t _ f (λ a. need_formed _ 5 t _ f (λ b.
      project_formed (entry_of t 0 h) i (named_used t 0 h b) (leb-true _ _ (and_left _ _ a))))
  act_formed (Encrypt k l) = need_formed _ 5 t _ f (λ h.
      encrypt_formed (entry_of t 0 k) (entry_of t 0 l) (named_used t 0 k (and_left _ _ h)) (named_used t 0 l (and_right (holds_handle t 0 k) _ h)))
  act_formed (Decrypt k c) = need_formed _ 5 t _ f (λ h.
      decrypt_formed (entry_of t 0 k) (entry_of t 0 c) (named_used t 0 c (and_right (holds_handle t 0 k) _ h)))
  act_formed (Parse h) = need_formed _ 5 t _ f (λ a. f)

pub step_formed : (r : Request) (t : Table) → well_formed t ≡ true → well_formed (step r t).table ≡ true
unfolding step
step_formed r t h = well_formed_lem (step r t).table (need_formed _ 1 t (act r t) (formed t h) (λ a. act_formed t (formed t h) r))

-- so a row of requests leaves a well-formed table
pub run_formed : (rs : List Request) (t : Table) → well_formed t ≡ true → well_formed (table_after t (run rs t)) ≡ true
unfolding run table_after
run_formed [] t h = h
run_formed (r ∷ rs) t h = run_formed rs (step r t).table (step_formed r t h)
