-- The ways that a command goes, in the facts that the code has on each. Assumes nothing.
use Rattle.std.specs.Prelude.{Option, Some, None, Result, Ok, Err}
use Rattle.std.specs.Option.{ok_or}
use Rattle.std.specs.Result.{IsErrAnd}
use Rattle.std.proofs.lemmas.Result.{err_from_is_err_and}
use Prim.Native.Nat.{ℕ}
use mathlib.Core.Path.{◌≡◌, refl}
use mathlib.Core.Bool.{Bool, true, false}
use mathlib.Core.List.{List, [], ◌∷◌}
use borrow.Author.Tests.{eq-eqb, ne_eqb}
use Rattle.rules.specs.Table.{Table}
use Rattle.rules.specs.Terms.{Term, numbers_of, length_of, new_entry, add_entry, create}
use Rattle.rules.specs.Handles.{entry_of, holds_handle}
use Rattle.rules.specs.Outcome.{Outcome, gives, refused, need, need_room, gives_handle}
use Rattle.rules.specs.Commands.{give_new, give_found_or_new}
use Rattle.rules.specs.Meaning.{found_at, or_nothing, said}
use Rattle.rules.specs.declared.Entry.{Entry}
use Rattle.rules.specs.declared.Refusal.{Refusal}
use Rattle.rules.specs.declared.Reply.{Reply}
use Rattle.rows.proofs.Search.{found, nothing}

pub need_fails : {b : Bool} (n : ℕ) (t : Table) (rest : Outcome) → b ≡ false → need b n t rest ≡ gives (refused n) t
unfolding need
need_fails n t rest p = rw p refl

-- ---- a look-up
module _ (t : Table) (h : ℕ) (f : Option Entry) (p : found_at f ≡ or_nothing (entry_of t 0 h)) where
  pub held : (e : Entry) → f ≡ Some e → holds_handle t 0 h ≡ true
  unfolding holds_handle
  held e q = rw (ne_eqb _ 0 (found _ f e p q).0) refl

  pub held_at : (e : Entry) → f ≡ Some e → entry_of t 0 h ≡ e.0
  held_at e q = (found _ f e p q).1

  pub unheld : f ≡ None → holds_handle t 0 h ≡ false
  unfolding holds_handle
  unheld q = rw (eq-eqb _ 0 (nothing _ f p q)) refl

-- ---- a `?` that refuses where a look-up gives nothing
pub went_on : {A : Type 0} (f : Option A) (n : Refusal) (r : Result A Refusal) → r ≡ ok_or f n → (x : A) → r ≡ Ok x → f ≡ Some x
went_on None n r p x q = cc
went_on (Some y) n r p x q = cc

pub stopped : {A : Type 0} (f : Option A) (n : Refusal) (r : Result A Refusal) → r ≡ ok_or f n → (e : Refusal) → r ≡ Err e → f ≡ None
stopped None n r p e q = refl
stopped (Some y) n r p e q = cc

refused_as : {A : Type 0} (f : Option A) (n : Refusal) (r : Result A Refusal) → r ≡ ok_or f n → (e : Refusal) → r ≡ Err e → e ≡ n
refused_as None n r p e q = cc
refused_as (Some y) n r p e q = cc

-- the answer there
pub refusal : {A : Type 0} (f : Option A) (n : Refusal) (r : Result A Refusal) → r ≡ ok_or f n → (e : Refusal) → r ≡ Err e
    → (z : Result Reply Refusal) → IsErrAnd z (λ y. y ≡ e) → said z ≡ refused n.0
unfolding said
refusal f n r p e q z h = let y = err_from_is_err_and z h in rw (y.1, y.2, refused_as f n r p e q) refl

-- ---- a new entry, by the seven numbers that the code hands over
pub gives_new : (t : Table) (x : Term) (len : ℕ) (ns : List ℕ) → length_of t x ≡ len → numbers_of x len ≡ ns
    → give_new t x ≡ need_room t (len ∷ []) (gives_handle (add_entry t ns) (new_entry t))
unfolding give_new create
gives_new t x len ns p q = rw (p, q) refl

-- ---- the entry that was found, or a new one
pub gives_found : (t : Table) (n e : ℕ) (x : Term) → (n ≡ 0 → ⊥) → n ≡ e → give_found_or_new t n x ≡ gives_handle t e
unfolding give_found_or_new
gives_found t n e x h q = rw (ne_eqb n 0 h, q) refl

pub gives_unfound : (t : Table) (n : ℕ) (x : Term) → n ≡ 0 → give_found_or_new t n x ≡ give_new t x
unfolding give_found_or_new
gives_unfound t n x h = rw (eq-eqb n 0 h) refl
