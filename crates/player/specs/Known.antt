-- What the player keeps in mind of its table, so that it need not be examined: whether it is well formed, which a set-up alone makes it (rules
-- M3 and F5).
use Rattle.std.specs.Prelude.{ℕ, Bool, true, List, eqb, get_or, if◌then◌else◌}

-- `ready`, the answer of number 1, makes the table well formed; any other leaves that as it was
unfoldable pub formed_after : Bool → List ℕ → Bool
formed_after formed answer = if eqb (get_or answer 0 0) 1 then true else formed
