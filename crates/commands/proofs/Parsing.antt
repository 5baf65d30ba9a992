-- What an entry's value is, by its type, and the ways that parsing goes (rule C7). Assumes nothing.
use Prim.Native.Nat.{ℕ}
use mathlib.Core.Path.{◌≡◌, refl, sym, ap, ◌∙◌}
use mathlib.Core.Logic.{◌⊎◌, inl, inr}
use mathlib.Core.Bool.{true, false}
use borrow.Author.Tests.{ne_eqb}
use Rattle.rules.specs.Table.{Table, type_at, count_at, argument, length_at, handle}
use Rattle.rules.specs.Handles.{entry_of, holds_handle}
use Rattle.rules.specs.Outcome.{gives, refused, parsed}
use Rattle.rules.specs.Commands.{value_of, parse_of, parse}
use Rattle.rules.specs.Meaning.{number_of}
use Rattle.rules.specs.declared.Kind.{Kind}
use Rattle.rules.specs.declared.Kind.TheVariants.{Data, Nonce, List, Ciphertext, SecretKey, PublicKey}
use Rattle.rules.proofs.Needs.{need_goes}
use Rattle.commands.proofs.Ways.{need_fails}

-- ---- entry e, whose type is y
module _ (t : Table) (e y : ℕ) (type : y ≡ type_at t e) where
  -- the number of kind k
  module _ (k : Kind) (named : number_of k ≡ y) where
    pub value_list : k ≡ List → value_of t e ≡ count_at t e
    unfolding value_of
    value_list p = rw (sym type ∙ sym named ∙ ap number_of p) refl

    pub value_ciphertext : (a : ℕ) → k ≡ Ciphertext → a ≡ argument t e 1 → value_of t e ≡ handle t 0 a
    unfolding value_of
    value_ciphertext a p q = rw (sym type ∙ sym named ∙ ap number_of p, q) refl

    pub value_nonce : k ≡ Nonce → value_of t e ≡ 0
    unfolding value_of
    value_nonce p = rw (sym type ∙ sym named ∙ ap number_of p) refl

    pub value_first : (k ≡ Data) ⊎ ((k ≡ SecretKey) ⊎ (k ≡ PublicKey)) → value_of t e ≡ argument t e 1
    unfolding value_of
    value_first (inl p) = rw (sym type ∙ sym named ∙ ap number_of p) refl
    value_first (inr (inl p)) = rw (sym type ∙ sym named ∙ ap number_of p) refl
    value_first (inr (inr p)) = rw (sym type ∙ sym named ∙ ap number_of p) refl

  -- the number of none
  pub value_none : ((k : Kind) → number_of k ≡ y → ⊥) → value_of t e ≡ 0
  unfolding value_of
  value_none h =
      rw (
        ne_eqb (type_at t e) 3 (λ q. h List (sym q ∙ sym type)),
        ne_eqb (type_at t e) 4 (λ q. h Ciphertext (sym q ∙ sym type)),
        ne_eqb (type_at t e) 1 (λ q. h Data (sym q ∙ sym type)),
        ne_eqb (type_at t e) 5 (λ q. h SecretKey (sym q ∙ sym type)),
        ne_eqb (type_at t e) 6 (λ q. h PublicKey (sym q ∙ sym type)),
      ) refl

-- ---- of handle h
pub parse_unheld : (t : Table) (h : ℕ) → holds_handle t 0 h ≡ false → parse t h ≡ gives (refused 5) t
unfolding parse
parse_unheld t h p = need_fails 5 t _ p

pub parse_held : (t : Table) (h e y v l : ℕ) → holds_handle t 0 h ≡ true → entry_of t 0 h ≡ e → y ≡ type_at t e → v ≡ value_of t e → l ≡ length_at t e
    → parse t h ≡ gives (parsed y v l) t
unfolding parse parse_of
parse_held t h e y v l p q a b c = need_goes 5 t _ p ∙ rw (q, a, b, c) refl
