-- A participant's key of either type, so that one walk over the knowers serves both (rule W4).
use Rattle.std.specs.Prelude.{ℕ, Bool, eqb, if◌then◌else◌}
use Rattle.rules.specs.Choice.{◌and◌}
use Rattle.rules.specs.Table.{Table, mask, type_at, argument, every_knower}
use Rattle.rules.specs.Terms.{secret_key_type}
use Rattle.rules.specs.SetUp.{holds_secret_key, holds_public_key}
use Rattle.rules.specs.WellFormed.{held_as_named}

-- the knowers that set-up names for participant p's key of this type
unfoldable pub named_for : ℕ → ℕ → ℕ → ℕ → Bool
named_for kind m p = if eqb kind secret_key_type then holds_secret_key m p else holds_public_key m

-- entry e is that key, held by just those
unfoldable pub is_key_of : Table → ℕ → ℕ → ℕ → Bool
is_key_of t kind p e =
    eqb (type_at t e) kind and eqb (argument t e 1) p and every_knower t (held_as_named t (named_for kind (mask t) p) e)
