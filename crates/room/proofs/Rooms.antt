-- Room for one new entry, and what is given: each way that the rules go, in the facts that the code has there. Assumes nothing.
use Prim.Native.Nat.{ℕ, ◌-◌, ◌≤◌, ◌<◌}
use mathlib.Core.Path.{◌≡◌, refl, sym, ap₂, ◌∙◌}
use mathlib.Core.Bool.{true, false}
use mathlib.Core.List.{List, [], ◌∷◌}
use lib.Dec.{leb}
use borrow.Author.Tests.{le-leb, lt-leb}
use Rattle.rules.specs.Choice.{every}
use Rattle.rules.specs.Table.{Table, used, capacity, handle}
use Rattle.rules.specs.Terms.{longest, new_entry, add_entry}
use Rattle.rules.specs.Handles.{grant}
use Rattle.rules.specs.Outcome.{Outcome, gives, refused, handed, need, is_short, need_room, gives_handle}

-- ---- a new entry of length l
module _ (t : Table) (l : ℕ) (rest : Outcome) where
  -- too long
  pub room_long : longest < l → need_room t (l ∷ []) rest ≡ gives (refused 9) t
  unfolding need_room need every is_short
  room_long h = rw (lt-leb l longest h) refl

  -- short enough, and no room
  pub room_full : l ≤ longest → leb 1 (capacity t - used t) ≡ false → need_room t (l ∷ []) rest ≡ gives (refused 10) t
  unfolding need_room need every is_short
  room_full h f = rw (le-leb l longest h, f) refl

  -- short enough, and room
  pub room_there : l ≤ longest → leb 1 (capacity t - used t) ≡ true → need_room t (l ∷ []) rest ≡ rest
  unfolding need_room need every is_short
  room_there h f = rw (le-leb l longest h, f) refl

-- ---- the entry given, step by step
pub given : (t t₁ : Table) (e h : ℕ) → t₁ ≡ grant t 0 e → h ≡ handle t₁ 0 e → gives (handed h) t₁ ≡ gives_handle t e
unfolding gives_handle
given t t₁ e h p q = rw (q, p) refl

-- a new entry given, where it is short enough and has room
pub new_given : (t t₁ : Table) (ns : List ℕ) (e l : ℕ) → l ≤ longest → leb 1 (capacity t - used t) ≡ true → t₁ ≡ add_entry t ns → e ≡ new_entry t
    → gives_handle t₁ e ≡ need_room t (l ∷ []) (gives_handle (add_entry t ns) (new_entry t))
new_given t t₁ ns e l h f p q = ap₂ gives_handle p q ∙ sym (room_there t l (gives_handle (add_entry t ns) (new_entry t)) h f)
