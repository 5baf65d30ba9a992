-- `ranges::mask_fits` meets its contract: what the shift leaves is nothing if the mask fits.
use native.Mathlib.Omega.{arith}
use Rattle.ranges.proofs.Shifted.{none_left}
use Rattle.ranges.proofs.mask_fits.Goals as goal

pub returns : goal.returns
returns c = none_left _ _ (omega arith) _ _ (rw c.from.ensures at c.checked_shr.ensures) c.unwrap_or.ensures
