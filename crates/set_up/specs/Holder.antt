-- The one knower that is to hold a secret key.
use Rattle.std.specs.Prelude.{ℕ, if◌then◌else◌}
use Rattle.rules.specs.Table.{in_mask}

-- its owner if that is honest by the mask, else the adversary
unfoldable pub secret_holder : ℕ → ℕ → ℕ
secret_holder m p = if in_mask m p then p else 0
