-- Handles: who holds an entry, granting, and the one way from a handle to its entry (rules H1 to H3).
use Rattle.std.specs.Prelude.{ℕ, Bool, not, List, [], ◌∷◌, eqb, if◌then◌else◌}
use Rattle.rules.specs.Choice.{◌and◌, count, lowest}
use Rattle.rules.specs.Table.{Table, raised, used, next_handle, set_next_handle, handle, set_handle}

-- H1: knower k has a handle on entry e
unfoldable pub holds : Table → ℕ → ℕ → Bool
holds t k e = not (eqb (handle t k e) 0)

-- H1: how many used entries knower k holds
unfoldable pub held : Table → ℕ → ℕ
held t k = count (holds t k) (used t)

-- H2: knower k is granted entry e: its next handle, unless it has one on that entry
unfoldable pub grant : Table → ℕ → ℕ → Table
grant t k e =
    if holds t k e then t else
    set_next_handle (set_handle t k e (next_handle t k)) k (raised (next_handle t k))

-- H2: knower k is granted each entry of the list, in order
unfoldable pub grant_each : Table → ℕ → List ℕ → Table
grant_each t k [] = t
grant_each t k (e ∷ es) = grant_each (grant t k e) k es

-- H3: handle h names entry e to knower k; handle 0 names nothing
unfoldable pub names : Table → ℕ → ℕ → ℕ → Bool
names t k h e = not (eqb h 0) and eqb (handle t k e) h

-- H3: the entry that handle h names to knower k, the lowest where the handle stands twice; 0 for none
unfoldable pub entry_of : Table → ℕ → ℕ → ℕ
entry_of t k h = lowest (names t k h) (used t)

-- H3: knower k holds handle h
unfoldable pub holds_handle : Table → ℕ → ℕ → Bool
holds_handle t k h = not (eqb (entry_of t k h) 0)
