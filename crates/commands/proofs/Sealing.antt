-- The ways that encrypting and decrypting go (rules C5 and C6). Assumes nothing.
use Rattle.std.specs.Prelude.{Option, Some, None, MatchOption}
use Prim.Native.Nat.{ℕ, ◌+◌}
use mathlib.Core.Path.{◌≡◌, refl, sym, ap, ap₂, ◌∙◌}
use mathlib.Core.Bool.{true, false}
use mathlib.Core.List.{[], ◌∷◌}
use borrow.Author.Tests.{eq-eqb, ne_eqb}
use Rattle.rules.specs.Choice.{◌and◌}
use Rattle.rules.specs.Table.{Table, type_at, argument, length_at}
use Rattle.rules.specs.Terms.{ciphertext, type_of, arguments_of, numbers_of, ciphertext_length, length_of, new_entry, add_entry}
use Rattle.rules.specs.Handles.{entry_of, holds_handle}
use Rattle.rules.specs.Outcome.{Outcome, gives, refused, need, need_room, gives_handle}
use Rattle.rules.specs.Commands.{encrypt_of, decrypt_of}
use Rattle.rules.specs.declared.Entry.{Entry}
use Rattle.rules.proofs.Logic.{both}
use Rattle.rules.proofs.Needs.{need_goes}
use Rattle.rows.specs.Row.{seven}
use Rattle.commands.proofs.Ways.{need_fails, gives_new}

-- ---- entry l sealed under entry k, whose types are z and y
module _ (t : Table) (k l y : ℕ) (key : y ≡ type_at t k) where
  pub no_public_key : (y ≡ 6 → ⊥) → encrypt_of t k l ≡ gives (refused 6) t
  unfolding encrypt_of
  no_public_key p = need_fails 6 t _ (rw (ne_eqb (type_at t k) 6 (λ q. p (key ∙ q))) refl)

  module _ (public : y ≡ 6) (z : ℕ) (list : z ≡ type_at t l) where
    pub no_list : (z ≡ 3 → ⊥) → encrypt_of t k l ≡ gives (refused 6) t
    unfolding encrypt_of
    no_list p = need_fails 6 t _ (rw (eq-eqb (type_at t k) 6 (sym key ∙ public), ne_eqb (type_at t l) 3 (λ q. p (list ∙ q))) refl)

    pub sealed : (n : ℕ) → z ≡ 3 → n ≡ length_at t l
        → encrypt_of t k l ≡ need_room t ((n + 16) ∷ []) (gives_handle (add_entry t (seven 4 2 (k ∷ l ∷ 0 ∷ 0 ∷ []) (n + 16))) (new_entry t))
    unfolding encrypt_of type_of arguments_of numbers_of ciphertext_length length_of seven
    sealed n p q =
        need_goes 6 t _ (both (eq-eqb (type_at t k) 6 (sym key ∙ public)) (eq-eqb (type_at t l) 3 (sym list ∙ p)))
        ∙ gives_new t (ciphertext k l) (n + 16) (seven 4 2 (k ∷ l ∷ 0 ∷ 0 ∷ []) (n + 16)) (ap (λ (x : ℕ). x + 16) (sym q)) refl

-- ---- entry c opened by entry k, whose types are z and y
module _ (t : Table) (k c y : ℕ) (key : y ≡ type_at t k) where
  pub no_secret_key : (y ≡ 5 → ⊥) → decrypt_of t k c ≡ gives (refused 6) t
  unfolding decrypt_of
  no_secret_key p = need_fails 6 t _ (rw (ne_eqb (type_at t k) 5 (λ q. p (key ∙ q))) refl)

  module _ (secret : y ≡ 5) (z : ℕ) (ct : z ≡ type_at t c) where
    pub no_ciphertext : (z ≡ 4 → ⊥) → decrypt_of t k c ≡ gives (refused 6) t
    unfolding decrypt_of
    no_ciphertext p = need_fails 6 t _ (rw (eq-eqb (type_at t k) 5 (sym key ∙ secret), ne_eqb (type_at t c) 4 (λ q. p (ct ∙ q))) refl)

    module _ (is : z ≡ 4) (n : ℕ) (under : n ≡ argument t c 1) where
      pub other_key : (n ≡ k + 1 → ⊥) → decrypt_of t k c ≡ gives (refused 8) t
      unfolding decrypt_of
      other_key p =
          need_goes 6 t _ (both (eq-eqb (type_at t k) 5 (sym key ∙ secret)) (eq-eqb (type_at t c) 4 (sym ct ∙ is)))
          ∙ need_fails 8 t _ (ne_eqb (argument t c 1) (k + 1) (λ q. p (under ∙ q)))

      pub opened : (x : ℕ) → n ≡ k + 1 → x ≡ argument t c 2 → decrypt_of t k c ≡ gives_handle t x
      unfolding decrypt_of
      opened x p q =
          need_goes 6 t _ (both (eq-eqb (type_at t k) 5 (sym key ∙ secret)) (eq-eqb (type_at t c) 4 (sym ct ∙ is)))
          ∙ need_goes 8 t _ (eq-eqb (argument t c 1) (k + 1) (sym under ∙ p))
          ∙ ap (gives_handle t) (sym q)

-- ---- what is done with the entries of handles a and b, where r is what looking both up gives
abbrev pub BothHeld : Table → ℕ → ℕ → Option (Entry × Entry) → Type 0
BothHeld t a b r =
    let held = holds_handle t 0 a and holds_handle t 0 b in
    MatchOption r (held ≡ false) (λ es. (held ≡ true) × (entry_of t 0 a ≡ es.0.0) × (entry_of t 0 b ≡ es.1.0))

module _ (t : Table) (a b : ℕ) (of : ℕ → ℕ → Outcome) (r : Option (Entry × Entry)) (known : BothHeld t a b r) where
  pub two_unheld : r ≡ None → need (holds_handle t 0 a and holds_handle t 0 b) 5 t (of (entry_of t 0 a) (entry_of t 0 b)) ≡ gives (refused 5) t
  two_unheld p = need_fails 5 t _ (rw p at known)

  pub two_held : (k l : Entry) → r ≡ Some (k, l)
      → need (holds_handle t 0 a and holds_handle t 0 b) 5 t (of (entry_of t 0 a) (entry_of t 0 b)) ≡ of k.0 l.0
  two_held k l p =
      let e : (holds_handle t 0 a and holds_handle t 0 b ≡ true) × (entry_of t 0 a ≡ k.0) × (entry_of t 0 b ≡ l.0) = rw p at known in
      need_goes 5 t _ e.0 ∙ ap₂ of e.1 e.2
