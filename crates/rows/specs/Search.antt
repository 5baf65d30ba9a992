-- The search of the used entries by two words.
use Rattle.std.specs.Prelude.{ℕ, ◌*◌, ◌≤◌, ◌<◌, ◌≡◌, Bool, false, eqb, ltb}
use Rattle.rules.specs.Choice.{◌and◌, lowest}
use Rattle.rules.specs.Table.{Table, row_width, word, used}

-- entry x has v as its word k and w as its word j
unfoldable pub has_both : Table → ℕ → ℕ → ℕ → ℕ → ℕ → Bool
has_both t k v j w x = eqb (word t x k) v and eqb (word t x j) w

-- x lies above e and passes the test
abbrev pub passes_above : ℕ → (ℕ → Bool) → ℕ → Bool
passes_above e f x = ltb e x and f x

-- the lowest used entry above e that has both; 0 for none
unfoldable pub next_with : Table → ℕ → ℕ → ℕ → ℕ → ℕ → ℕ
next_with t e k v j w = lowest (passes_above e (has_both t k v j w)) (used t)

-- none above e up to n passes the test
abbrev pub NoneTo : ℕ → (ℕ → Bool) → ℕ → Type 0
NoneTo e f n = (x : ℕ) → e < x → x ≤ n → f x ≡ false

-- the search may stand at this place: a row starts there, from e on, and up to that row none passes the test
pub record Reached (t : Table) (e : ℕ) (f : ℕ → Bool) (at : ℕ) : Type 0 where
  pub row : ℕ
  pub place : at ≡ row_width t * row
  pub from : e ≤ row
  pub none : NoneTo e f row

-- no row between two places has v as its word k: where the search for it and another word may stand at the one, it may at the other
abbrev pub Passes : Table → ℕ → ℕ → ℕ → ℕ → Type 0
Passes t k v from at = (e j w : ℕ) → Reached t e (has_both t k v j w) from → Reached t e (has_both t k v j w) at
