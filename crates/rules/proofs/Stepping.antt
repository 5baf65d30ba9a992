-- The honest steps are the moves of demand 3: what is sent carries a fresh nonce and the sender's name, or the nonce that was handed over,
-- and who is granted something is granted what it read or made. Assumes nothing.
use Prim.Native.Nat.{ℕ, ◌≤◌}
use native.Mathlib.Omega.{arith}
use mathlib.Core.Path.{◌≡◌, refl, sym, ◌∙◌}
use mathlib.Core.Logic.{◌⊎◌, inl, inr}
use mathlib.Core.Bool.{Bool, true, not}
use mathlib.Core.List.{List, [], ◌∷◌, ◌++◌, Memᴰ}
use lib.Dec.{eqb}
use borrow.Author.Tests.{eqb-true}
use Rattle.rules.specs.Table.{Table, type_at, is_participant, honest}
use Rattle.rules.specs.Terms.{datum, nonce, list_type, is_list, find_list}
use Rattle.rules.specs.Handles.{grant_each, entry_of, holds_handle}
use Rattle.rules.specs.Outcome.{Outcome, gives, accepted}
use Rattle.rules.specs.Steps.{may_act, unless_found, sealed_lengths, named_lengths, start, Message, is_for, sealed_in, plain_in, read_message, opened, answer_first, alone_length, answer_second, answer_message, deliver_list, deliver}
use Rattle.rules.specs.Machine.{Request, Start, Deliver}
use Rattle.rules.specs.Handshake.{term_in, turn}
use Rattle.rules.proofs.Logic.{and_left, and_right, each_none, each_cons, each_append}
use Rattle.rules.proofs.Shaped.{Person, Shaped}
use Rattle.rules.proofs.Grows.{Grows}
use Rattle.rules.proofs.Holding.{Holds, untouched_holds, each_grows, each_untouched, each_holds, handle_held}
use Rattle.rules.proofs.Shaping.{participant_person}
use Rattle.rules.proofs.Needs.{by_need, by_room}
use Rattle.rules.proofs.Sending.{Posted, posted_carries, Named, named_sent, alone_sent}
use Rattle.rules.proofs.Moves.{Learns, makes, names, lists, seals, Hands, Tells, starts, answers, replies, accepts, Followed, answers_only, refuses}
use Rattle.rules.proofs.Opening.{by_test, Understood, as_third, as_first, as_second, as_none, understood, plain_used, plain_list, Delivered, delivered}

-- ---- who acts is an honest participant
acting_person : (t : Table) (p q : ℕ) → may_act t p q ≡ true → Person t p
unfolding may_act
acting_person t p q h = participant_person t p (and_left (is_participant t p) _ h)

acting_honest : (t : Table) (p q : ℕ) → may_act t p q ≡ true → honest t p ≡ true
unfolding may_act
acting_honest t p q h = and_right (not (eqb p q)) _ (and_right (is_participant t q) _ (and_right (is_participant t p) _ h))

-- ---- who gets what by a message sent
module _ {t : Table} {p q : ℕ} {known xs : List ℕ} {o : Outcome} (r : Request) (m : Posted t p q known xs o) where
  post_hands : Hands (turn t r o) m.handed
  post_hands e i = go (m.to_zero e i)
    where
      go : Holds t 0 e ⊎ (e ≡ m.outer) → Holds t 0 e ⊎ (e ≡ entry_of o.table 0 m.handed)
      go (inl j) = inl j
      go (inr z) = inr (z ∙ sym m.names)

  post_tells : {ys : List ℕ} → ((e : ℕ) → Memᴰ e known → Learns o.table p ys e) → Tells (turn t r o) p ys
  post_tells {ys} f = record { acting = λ e i. go e (m.to_p e i); others = λ k n d. untouched_holds (m.others k n d) }
    where
      learns : (e : ℕ) → Memᴰ e (known ++ (m.plain ∷ m.ct ∷ m.outer ∷ [])) → Learns o.table p ys e
      learns =
          each_append (Learns o.table p ys) known f
          (each_cons (Learns o.table p ys) (lists xs m.is_plain)
          (each_cons (Learns o.table p ys) (seals _ _ m.is_ct)
          (each_cons (Learns o.table p ys) (lists _ m.is_outer) (each_none (Learns o.table p ys)))))

      go : (e : ℕ) → Holds t p e ⊎ Memᴰ e (known ++ (m.plain ∷ m.ct ∷ m.outer ∷ [])) → Holds t p e ⊎ Learns o.table p ys e
      go e (inl j) = inl j
      go e (inr j) = inr (learns e j)

module _ {t : Table} {p q : ℕ} {known repeated : List ℕ} {o : Outcome} (r : Request) (m : Named t p q known repeated o) where
  named_tells : {ys : List ℕ} → ((e : ℕ) → Memᴰ e known → Learns o.table p ys e) → Tells (turn t r o) p ys
  named_tells {ys} f = post_tells r m.posted
      (each_append (Learns o.table p ys) known f
      (each_cons (Learns o.table p ys) (makes q m.is_nonce)
      (each_cons (Learns o.table p ys) (names p m.is_name) (each_none (Learns o.table p ys)))))

module _ (H : ℕ → Bool) (t : Table) (sh : Shaped t) (same : (p : ℕ) → honest t p ≡ H p) where
  -- ---- start
  started : (u v : ℕ) {o : Outcome} → H u ≡ true → Named t u v [] [] o → Followed H t (Start u v) o
  started u v {o} hu m = record {
    grows = m.posted.grows;
    moves = starts u v m.new hu
        (record {
          handed = m.posted.handed;
          name = m.name;
          asked = refl;
          told = m.posted.told;
          carries = posted_carries m.posted;
          is_name = m.is_name;
          is_nonce = m.is_nonce;
          is_fresh = m.is_fresh;
        })
        (post_hands (Start u v) m.posted) (named_tells (Start u v) m (each_none (Learns o.table u [])));
  }

  pub follow_start : (u v : ℕ) → Followed H t (Start u v) (start t u v)
  unfolding start
  follow_start u v =
      by_need (Followed H t (Start u v)) (may_act t u v) 3 t _
      (λ may. by_room (Followed H t (Start u v)) t (named_lengths t u []) _
      (λ short room. started u v (sym (same u) ∙ acting_honest t u v may)
      (named_sent t sh u v (acting_person t u v may) [] [] (each_none (λ x. 1 ≤ x)) (omega arith) (omega (arith, sh.room))))
      (refuses H t (Start u v))) (refuses H t (Start u v) 3)

  -- ---- deliver
  module _ (s r h : ℕ) (may : may_act t r s ≡ true) where
    abbrev asked : Request
    asked = Deliver s r h

    abbrev known : List ℕ
    known = opened t (entry_of t 0 h)

    person : Person t r
    person = acting_person t r s may

    hr : H r ≡ true
    hr = sym (same r) ∙ acting_honest t r s may

    answered : (x y : ℕ) {o : Outcome} → Delivered t r h (x ∷ y ∷ []) → term_in t y ≡ datum s → Named t r s known (x ∷ []) o → Followed H t asked o
    answered x y d is_y m = record {
      grows = m.posted.grows;
      moves = answers r s x m.new y d.beside hr
          (record {
            given = h;
            handed = m.posted.handed;
            name = m.name;
            asked = refl;
            told = m.posted.told;
            carries = posted_carries m.posted;
            is_name = m.is_name;
            is_nonce = m.is_nonce;
            is_fresh = m.is_fresh;
          })
          d.took is_y (post_hands asked m.posted) (named_tells asked m (d.learns m.posted.grows));
    }

    replied : (x y z : ℕ) (zs : List ℕ) {o : Outcome} → Delivered t r h (x ∷ y ∷ z ∷ zs) → term_in t x ≡ nonce r s → term_in t z ≡ datum s
        → Posted t r s known (y ∷ []) o → Followed H t asked o
    replied x y z zs d is_x is-z m = record {
      grows = m.grows;
      moves = replies r s x y hr
          (record {
            given = h;
            handed = m.handed;
            beside = d.beside;
            name = z;
            others = zs;
            asked = refl;
            told = m.told;
            took = d.took;
            is_name = is-z;
            is_nonce = is_x;
            carries = posted_carries m;
          })
          (post_hands asked m) (post_tells asked m (d.learns m.grows));
    }

    agreed : (n : ℕ) → Delivered t r h (n ∷ []) → term_in t n ≡ nonce r s → Followed H t asked (gives (accepted r s) (grant_each t r known))
    agreed n d is-n = record {
      grows = g;
      moves = accepts r s n hr (record { given = h; beside = d.beside; asked = refl; told = refl; took = d.took; is_nonce = is-n })
          (untouched_holds (each_untouched t r 0 known d.real (λ z. omega (arith, person.low))))
          (record {
            acting = λ e i. go e (each_holds t r known d.real e i);
            others = λ k m n. untouched_holds (each_untouched t r k known d.real n);
          });
    }
      where
        g : Grows t (grant_each t r known)
        g = each_grows t r known d.real

        go : (e : ℕ) → Holds t r e ⊎ Memᴰ e known → Holds t r e ⊎ Learns (grant_each t r known) r (n ∷ []) e
        go e (inl j) = inl j
        go e (inr j) = inr (d.learns g e j)

    on_message : {xs : List ℕ} {m : Message} → Understood t r s xs m → Delivered t r h xs → Followed H t asked (answer_message t r s (entry_of t 0 h) m)
    unfolding answer_message answer_first answer_second
    on_message (as_third {n} is-n) d = agreed n d is-n
    on_message (as_first {x} {y} is_y) d = by_room (Followed H t asked) t (named_lengths t r (x ∷ [])) _
        (λ short room. answered x y d is_y (named_sent t sh r s person known (x ∷ []) d.real (omega arith) (omega (arith, sh.room))))
        (refuses H t asked)
    on_message (as_second {x} {y} {z} {zs} is_x is-z) d =
        let l = alone_length t y in
        by_room (Followed H t asked) t (unless_found (find_list t (y ∷ [])) l ++ sealed_lengths l) _
        (λ short room. replied x y z zs d is_x is-z (alone_sent t sh r s person known d.real y l (omega (arith, sh.room))))
        (refuses H t asked)
    on_message as_none d = answers_only H t asked 4 [] (omega arith)

  -- a list that is delivered is read if its first element is a ciphertext for r, and dropped else
  on_list : (s r h : ℕ) → may_act t r s ≡ true → Holds t 0 (entry_of t 0 h) → type_at t (entry_of t 0 h) ≡ list_type
      → Followed H t (Deliver s r h) (answer_message t r s (entry_of t 0 h) (read_message t r s (entry_of t 0 h)))
  unfolding read_message answer_message
  on_list s r h may held list_type_is =
      let l = entry_of t 0 h in
      by_test (λ m. Followed H t (Deliver s r h) (answer_message t r s l m)) (is_for t r (sealed_in t l))
      (λ for.
      let u = plain_used t sh r l held.uses list_type_is for in
      let i = plain_list t sh r l held.uses list_type_is for in
      on_message s r h may (understood t sh (plain_in t l) u i r s) (delivered t sh r l held.uses list_type_is for h refl))
      (answers_only H t (Deliver s r h) 4 [] (omega arith))

  pub follow_deliver : (s r h : ℕ) → Followed H t (Deliver s r h) (deliver t s r h)
  unfolding deliver deliver_list
  follow_deliver s r h =
      by_need (Followed H t (Deliver s r h)) (may_act t r s) 3 t _
      (λ may. by_need (Followed H t (Deliver s r h)) (holds_handle t 0 h) 5 t _
      (λ held. by_need (Followed H t (Deliver s r h)) (is_list t (entry_of t 0 h)) 6 t _
      (λ list_type_is. on_list s r h may (handle_held t 0 h held) (eqb-true (type_at t (entry_of t 0 h)) list_type list_type_is))
      (refuses H t (Deliver s r h) 6)) (refuses H t (Deliver s r h) 5)) (refuses H t (Deliver s r h) 3)
