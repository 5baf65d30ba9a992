-- Whether a record asks for a set-up, which no table is tested for (rule M3).
use Rattle.std.specs.Prelude.{Bool, true, false}
use Rattle.rules.specs.Machine.{Record, SetUp, Asks}

unfoldable pub is_set_up : Record → Bool
is_set_up (SetUp n m c) = true
is_set_up (Asks r) = false
