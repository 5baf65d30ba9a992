-- A bounded append to a lent output.
use Rattle.std.specs.Prelude.{ℕ, ◌+◌, min, ◌≡◌, List, length}
use Rattle.std.proofs.lemmas.List.Edits.{sets}

-- the bytes are written into the old output from a place on, and what falls past its end is left out; the next place is the one after the
-- bytes, but at most one past the length, which says that they did not fit
pub record Put (old : List ℕ) (at : ℕ) (bytes new : List ℕ) (next : ℕ) : Type 0 where
  pub written : new ≡ sets old at bytes
  pub place : next ≡ min (at + length bytes) (length old + 1)
