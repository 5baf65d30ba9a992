-- Turns in order of time: what stood in order stays so when a turn is added at the end, and that turn may be the last of the order. By
-- induction on the order. Assumes nothing.
use mathlib.Core.List.{List, [], ◌∷◌, ◌++◌}
use Rattle.rules.specs.Handshake.{Turn, InOrder, none, here, later}

infixl 65 ◌then◌
-- the history with one turn more
abbrev pub ◌then◌ : List Turn → Turn → List Turn
h then x = h ++ (x ∷ [])

-- what stood in order stays so
pub still : {Ps : List (Turn → Type 0)} {h : List Turn} (x : Turn) → InOrder Ps h → InOrder Ps (h then x)
still x none = none
still x (here p i) = here p (still x i)
still x (later i) = later (still x i)

-- one more kind, met by the turn that is added
module _ (P : Turn → Type 0) (x : Turn) (p : P x) where
  at_last : (h : List Turn) → InOrder (P ∷ []) (h then x)
  at_last [] = here p none
  at_last (y ∷ h) = later (at_last h)

  pub lastly : {Ps : List (Turn → Type 0)} {h : List Turn} → InOrder Ps h → InOrder (Ps ++ (P ∷ [])) (h then x)
  lastly (none {ts = h}) = at_last h
  lastly (here q i) = here q (lastly i)
  lastly (later i) = later (lastly i)
