-- The handles counted entry by entry, all knowers at once (rule W11).
use Rattle.std.specs.Prelude.{ℕ, ◌≤◌, ◌≡◌, Bool, List, length, get_or}
use Rattle.rules.specs.Choice.{all, count}
use Rattle.rules.specs.Table.{Table, most}
use Rattle.rules.specs.Handles.{holds}
use Rattle.rules.specs.WellFormed.{handle_is_below}

-- the number of the first e entries that each knower holds, with room for the knowers of every form
pub record Counts (t : Table) (e : ℕ) (held : List ℕ) : Type 0 where
  pub long : length held ≡ 13
  pub at : (k : ℕ) → k ≤ most t → get_or held k 0 ≡ count (holds t k) e

-- knower k's handle on entry e, and its handles on the first e, are below its next one
abbrev pub handle_is_below_at : Table → ℕ → ℕ → Bool
handle_is_below_at t e k = handle_is_below t k e

abbrev pub handles_are_below : Table → ℕ → ℕ → Bool
handles_are_below t e k = all (handle_is_below t k) e
