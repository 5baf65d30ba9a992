-- `people::in_mask` meets its contract: the shift leaves the bit last.
use native.Mathlib.Omega.{arith}
use borrow.Author.Tests.{eq-eqb}
use Rattle.people.proofs.Bits.{nobody_masked, bit_left}
use Rattle.people.proofs.in_mask.Goals as goal

pub returns-then-p-ne0 : goal.returns-then-p-ne0
returns-then-p-ne0 c =
    bit_left _ _ (omega arith) (omega arith) _ _ (rw c.from.ensures at c.checked_shr.ensures) c.unwrap_or.ensures

pub returns-else-p-ne0 : goal.returns-else-p-ne0
returns-else-p-ne0 c = rw (eq-eqb _ 0 c.if-p-ne0.false) (nobody_masked _ _ c.if-p-ne0.false)
