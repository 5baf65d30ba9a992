-- The form of the version that set-up writes is no wide one. Assumes nothing.
use Prim.Native.Nat.{◌≤◌}
use native.Mathlib.Omega.{arith}
use Rattle.rules.specs.Table.{this_version, most_of}

pub new_most_high : most_of this_version ≤ 12
unfolding most_of this_version
new_most_high = omega arith
