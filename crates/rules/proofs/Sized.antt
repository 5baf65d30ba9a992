-- The run has a row for the head and for each entry up to the capacity, and the used entries keep below it: so each row that a command
-- writes is there, and no number outgrows its word. Assumes nothing.
use Prim.Native.Nat.{ℕ, ◌+◌, ◌*◌, ◌≤◌, ◌<◌}
use native.Mathlib.Nat.{mul-le-mul_left}
use native.Mathlib.Omega.{arith}
use mathlib.Core.Path.{◌≡◌, refl}
use mathlib.Core.Bool.{false}
use Rattle.rules.specs.Table.{Table, size, most, row_width, largest, capacity, used, next_handle, handle}
use Rattle.rules.specs.Terms.{new_entry}
use Rattle.rules.specs.Handles.{holds, grant}
use Rattle.rules.proofs.Granting.{grant_handle}
use Rattle.rules.proofs.Creating.{new_idle}
use Rattle.rules.proofs.Shaped.{Used, Shaped}
use Rattle.rules.proofs.Grows.{Grows, grows_most}

-- the number of the first word past the last row
abbrev pub run_end : Table → ℕ
run_end t = row_width t + row_width t * capacity t

pub record Sized (t : Table) : Type 0 where
  pub long : run_end t ≤ size t
  pub room : used t ≤ capacity t
  pub small : capacity t ≤ 512

pub sized_shaped : {t : Table} → Shaped t → Sized t
sized_shaped s = record { long = s.long; room = s.room; small = s.small }

-- the row of an entry lies before that word
pub row_before : (t : Table) (e : ℕ) → e ≤ capacity t → row_width t * e + row_width t ≤ run_end t
row_before t e h = omega (arith, mul-le-mul_left (row_width t) h)

pub sized_row : {t : Table} → Sized t → (e : ℕ) → e ≤ capacity t → row_width t * e + row_width t ≤ size t
sized_row {t} z e h = omega (arith, z.long, row_before t e h)

pub sized_head : {t : Table} → Sized t → row_width t ≤ size t
sized_head {t} z = omega (arith, z.long)

-- no number is near the largest of a word
pub sized_low : {t : Table} → Sized t → used t + 1 < largest
unfolding largest
sized_low {t} z = omega (arith, z.room, z.small)

pub sized_new : {t : Table} → Sized t → new_entry t ≡ used t + 1
sized_new {t} z = new_idle t (omega (arith, sized_low z))

-- a knower of the form that is granted an entry gets its next handle
pub sized_handle : {t : Table} → Sized t → (k e : ℕ) → Used t e → k ≤ most t → holds t k e ≡ false → handle (grant t k e) k e ≡ next_handle t k
sized_handle {t} z k e w knower new = grant_handle t k e w.low knower (sized_head z) (sized_row z e (omega (arith, z.room, w.high))) new

pub end_kept : {t t' : Table} → Grows t t' → run_end t' ≡ run_end t
end_kept g = rw (grows_most g, g.head 3 (omega arith)) refl

pub sized_grows : {t t' : Table} → Grows t t' → used t' ≤ capacity t → Sized t → Sized t'
sized_grows {t} {t'} g r z = record {
  long = omega (arith, end_kept g, g.run, z.long);
  room = omega (arith, g.head 3 (omega arith));
  small = omega (arith, g.head 3 (omega arith), z.small);
}
