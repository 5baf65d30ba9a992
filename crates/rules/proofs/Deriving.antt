-- The adversary's commands give knower 0 what it can derive from what it holds, and nobody else anything: each grants it one entry, which
-- is new, was found by its term, or stands in an entry that it holds. Assumes nothing.
use Prim.Native.Nat.{ℕ, ◌+◌, ◌≤◌}
use native.Mathlib.Omega.{arith}
use mathlib.Core.Path.{◌≡◌, ◌∙◌}
use mathlib.Core.Logic.{◌⊎◌, inl, inr}
use mathlib.Core.Bool.{Bool, true}
use mathlib.Core.List.Memᴰ
use mathlib.Core.List.{List, [], ◌∷◌, map, Memᴰ}
use lib.Dec.{eqb, leb}
use lib.ListN.{length, take, length-take, length-map}
use borrow.Author.Tests.{leb-true, eqb-true, eq-eqb, ne_eqb}
use Rattle.rules.specs.Choice.{◌and◌, every}
use Rattle.rules.specs.Table.{Table, type_at, count_at, argument}
use Rattle.rules.specs.Terms.{Term, datum, nonce, list, ciphertext, list_type, ciphertext_type, secret_key_type, is_list, is_ciphertext, is_secret_key, is_public_key, arguments_of, elements, length_of, secret_key_of, public_key_of, find_datum, find_list}
use Rattle.rules.specs.Handles.{grant, entry_of, holds_handle}
use Rattle.rules.specs.Outcome.{gives_handle}
use Rattle.rules.specs.Commands.{give_new, give_found_or_new, store, new_nonce, list_is_asked, may_be_listed, make_list_of, make_list, is_place, project_of, project, encrypt_of, encrypt, decrypt_of, decrypt, parse_of, parse}
use Rattle.rules.specs.Steps.{Made, make}
use Rattle.rules.specs.Machine.{Request}
use Rattle.rules.specs.Handshake.{term_in}
use Rattle.rules.proofs.Logic.{and_left, and_right, every_at}
use Rattle.rules.proofs.Shaped.{Used, Shaped}
use Rattle.rules.proofs.Grows.{Grows, grows_refl, grows_trans, grant_grows, term_stays}
use Rattle.rules.proofs.Holding.{Holds, Untouched, untouched_refl, untouched_holds, grant_untouched, grant_holds, handle_held}
use Rattle.rules.proofs.Reading.{Found, absent, present, datum_found, list_found, list_term, ciphertext_term, secret_term}
use Rattle.rules.proofs.Needs.{by_need, by_room}
use Rattle.rules.proofs.Obtaining.{Creates, creates_stays, make_creates}
use Rattle.rules.proofs.Stays.{argument_in}
use Rattle.rules.proofs.Moves.{Derived, stored, made, listed, projected, encrypted, decrypted, derives, Followed, not_accepted, answers_only, refuses}

module _ (H : ℕ → Bool) (t : Table) (sh : Shaped t) (r : Request) where
  -- ---- one entry is granted to knower 0, perhaps a new one
  gains : (s : Table) (e : ℕ) → Grows t s → ((k : ℕ) → Untouched k t s) → 1 ≤ e → Derived t (grant s 0 e) e → Followed H t r (gives_handle s e)
  unfolding gives_handle
  gains s e g u real d = record {
    grows = grows_trans g (grant_grows s 0 e real);
    moves = derives (not_accepted (omega arith))
        (λ k n x i. untouched_holds (u k) x (untouched_holds (grant_untouched s 0 k e real n) x i))
        (λ x i. go x (grant_holds s 0 e real x i));
  }
    where
      go : (x : ℕ) → Holds s 0 x ⊎ (x ≡ e) → Holds t 0 x ⊎ Derived t (grant s 0 e) x
      go x (inl i) = inl (untouched_holds (u 0) x i)
      go x (inr q) = inr (rw q d)

  gains_old : (e : ℕ) → 1 ≤ e → Derived t (grant t 0 e) e → Followed H t r (gives_handle t e)
  gains_old e real d = gains t e (grows_refl t) (λ k. untouched_refl k t) real d

  -- a new entry, or one found, of a term that knower 0 can derive
  module _ (x : Term) (few : length (arguments_of x) ≤ 4) (derived : (s : Table) (e : ℕ) → term_in s e ≡ x → Derived t s e) where
    gains_made : (m : Made) → Creates t x m → Followed H t r (gives_handle m.table m.entry)
    gains_made m c =
        gains m.table m.entry c.grows c.silent c.uses.low
        (derived _ m.entry (creates_stays c (grant_grows m.table 0 m.entry c.uses.low)))

    gains_new : Followed H t r (give_new t x)
    unfolding give_new make
    gains_new = by_room (Followed H t r) t (length_of t x ∷ []) _
        (λ short room. gains_made (make t x (length_of t x)) (make_creates t sh t (grows_refl t) x (length_of t x) few (omega arith)))
        (refuses H t r)

    gains_found : (e : ℕ) → Found t x e → Followed H t r (give_found_or_new t e x)
    unfolding give_found_or_new
    gains_found e (absent z) = rw (eq-eqb e 0 z) gains_new
    gains_found e (present u is) =
        rw (ne_eqb e 0 (λ z. omega (arith, u.low)))
        (gains_old e u.low (derived _ e (term_stays (grant_grows t 0 e u.low) e u.low u.high ∙ is)))

  -- ---- the commands
  pub follow_store : (d : ℕ) → Followed H t r (store t d)
  unfolding store arguments_of
  follow_store d = gains_found (datum d) (omega arith) (λ s e q. stored d q) (find_datum t d) (datum_found t d)

  pub follow_nonce : Followed H t r (new_nonce t)
  unfolding new_nonce arguments_of
  follow_nonce = gains_new (nonce 0 0) (omega arith) (λ s e q. made q)

  list_of : (es : List ℕ) → length es ≤ 4 → ((e : ℕ) → Memᴰ e es → Holds t 0 e) → Followed H t r (make_list_of t es)
  unfolding make_list_of arguments_of
  list_of es few held = by_need (Followed H t r) (every (may_be_listed t) es) 6 t _
      (λ may. gains_found (list es) few (λ s e q. listed es q held) (find_list t es) (list_found t es)) (refuses H t r 6)

  -- the handles asked for are held, and so are the entries that they name
  named_held : (hs : List ℕ) → every (holds_handle t 0) hs ≡ true → (e : ℕ) → Memᴰ e (map (entry_of t 0) hs) → Holds t 0 e
  named_held hs held e i =
      let w = Memᴰ.of_map (entry_of t 0) hs i in
      rw w.2 at (handle_held t 0 w.0 (every_at (holds_handle t 0) hs held w.0 w.1))

  pub follow_list : (k : ℕ) (hs : List ℕ) → Followed H t r (make_list t k hs)
  unfolding make_list list_is_asked
  follow_list k hs =
      by_need (Followed H t r) (list_is_asked k hs) 4 t _
      (λ asked. by_need (Followed H t r) (every (holds_handle t 0) (take k hs)) 5 t _
      (λ held.
      let four : k ≤ 4 = leb-true k 4 (and_left (leb k 4) _ (and_right (leb 1 k) _ asked)) in
      let few : length (map (entry_of t 0) (take k hs)) ≤ 4 = omega (arith, length-map (take k hs) (entry_of t 0), length-take k hs) in
      list_of (map (entry_of t 0) (take k hs)) few (named_held (take k hs) held))
      (refuses H t r 5)) (refuses H t r 4)

  element_of : (e i : ℕ) → Holds t 0 e → 1 ≤ i → i ≤ 4 → Followed H t r (project_of t e i)
  unfolding project_of
  element_of e i held low high =
      by_need (Followed H t r) (is_list t e) 6 t _
      (λ l. by_need (Followed H t r) (leb i (count_at t e)) 7 t _
      (λ c.
      let list_type_is : type_at t e ≡ list_type = eqb-true (type_at t e) list_type l in
      let here = argument_in t e i low high (leb-true i (count_at t e) c) in
      gains_old (argument t e i) (sh.list_elements e held.uses list_type_is (argument t e i) here).0
      (projected e (elements t e) held (list_term t e held.uses list_type_is) here))
      (refuses H t r 7)) (refuses H t r 6)

  pub follow_project : (h i : ℕ) → Followed H t r (project t h i)
  unfolding project is_place
  follow_project h i =
      by_need (Followed H t r) (is_place i) 4 t _
      (λ place. by_need (Followed H t r) (holds_handle t 0 h) 5 t _
      (λ held. element_of (entry_of t 0 h) i (handle_held t 0 h held) (leb-true 1 i (and_left (leb 1 i) (leb i 4) place))
      (leb-true i 4 (and_right (leb 1 i) (leb i 4) place)))
      (refuses H t r 5)) (refuses H t r 4)

  pub follow_encrypt : (k l : ℕ) → Followed H t r (encrypt t k l)
  unfolding encrypt encrypt_of arguments_of
  follow_encrypt k l =
      by_need (Followed H t r) (holds_handle t 0 k and holds_handle t 0 l) 5 t _
      (λ held. by_need (Followed H t r) (is_public_key t (entry_of t 0 k) and is_list t (entry_of t 0 l)) 6 t _
      (λ types. gains_new (ciphertext (entry_of t 0 k) (entry_of t 0 l)) (omega arith)
      (λ s e q. encrypted (entry_of t 0 k) (entry_of t 0 l) q (handle_held t 0 l (and_right (holds_handle t 0 k) (holds_handle t 0 l) held))))
      (refuses H t r 6)) (refuses H t r 5)

  -- a secret key fits the ciphertexts under the public key after it
  key_after : (k : ℕ) → Used t k → type_at t k ≡ secret_key_type → k + 1 ≡ public_key_of (argument t k 1)
  unfolding secret_key_of public_key_of
  key_after k u q = let s = sh.secret_key k u q in omega (arith, s.0.low, s.1)

  plain_of : (k c : ℕ) → Holds t 0 k → Holds t 0 c → Followed H t r (decrypt_of t k c)
  unfolding decrypt_of
  plain_of k c hk hc =
      by_need (Followed H t r) (is_secret_key t k and is_ciphertext t c) 6 t _
      (λ types. by_need (Followed H t r) (eqb (argument t c 1) (k + 1)) 8 t _
      (λ fits.
      let is_key : type_at t k ≡ secret_key_type = eqb-true _ _ (and_left (is_secret_key t k) (is_ciphertext t c) types) in
      let is_ct : type_at t c ≡ ciphertext_type = eqb-true _ _ (and_right (is_secret_key t k) (is_ciphertext t c) types) in
      let under : argument t c 1 ≡ public_key_of (argument t k 1) = eqb-true (argument t c 1) (k + 1) fits ∙ key_after k hk.uses is_key in
      gains_old (argument t c 2) (sh.cipher_list c hc.uses is_ct).0
      (decrypted k c (argument t k 1) hk (secret_term t k hk.uses is_key) hc (rw under at (ciphertext_term t c hc.uses is_ct))))
      (refuses H t r 8)) (refuses H t r 6)

  pub follow_decrypt : (k c : ℕ) → Followed H t r (decrypt t k c)
  unfolding decrypt
  follow_decrypt k c =
      by_need (Followed H t r) (holds_handle t 0 k and holds_handle t 0 c) 5 t _
      (λ held. plain_of (entry_of t 0 k) (entry_of t 0 c) (handle_held t 0 k (and_left (holds_handle t 0 k) (holds_handle t 0 c) held))
      (handle_held t 0 c (and_right (holds_handle t 0 k) (holds_handle t 0 c) held)))
      (refuses H t r 5)

  pub follow_parse : (h : ℕ) → Followed H t r (parse t h)
  unfolding parse parse_of
  follow_parse h = by_need (Followed H t r) (holds_handle t 0 h) 5 t _ (λ held. answers_only H t r 6 _ (omega arith)) (refuses H t r 5)
