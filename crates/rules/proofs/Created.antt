-- A new entry of a table that has room for it: it is counted, its words are those of its term, nobody holds it, and no other word
-- changes. Assumes nothing.
use Prim.Native.Nat.{ℕ, ◌+◌, ◌*◌, ◌≤◌, ◌<◌}
use native.Mathlib.Omega.{arith}
use mathlib.Core.Path.{◌≡◌}
use Rattle.rules.specs.Table.{Table, size, row_width, largest, capacity, used}
use Rattle.rules.specs.Terms.{Term, numbers_of, new_entry, create}
use Rattle.rules.proofs.Creating.{new_real, numbers_seven, create_term}
use Rattle.rules.proofs.Shaped.{Used}
use Rattle.rules.proofs.Grows.{Grows, add_used, add_grows}
use Rattle.rules.proofs.Holding.{Untouched, add_untouched}
use Rattle.rules.proofs.Sized.{Sized, sized_row, sized_head, sized_low, sized_new}
use Rattle.rules.proofs.Rows.{Reads}
use Rattle.rules.proofs.Margins.{Margins, add_margins}

pub record Created (t : Table) (x : Term) (l : ℕ) : Type 0 where
  pub one : used (create t x l) ≡ used t + 1
  pub grows : Grows t (create t x l)
  pub margins : Margins t (create t x l)
  pub untouched : (k : ℕ) → Untouched k t (create t x l)
  pub uses : Used (create t x l) (new_entry t)
  pub reads : Reads (create t x l) (new_entry t) x l

pub created : (t : Table) (x : Term) (l : ℕ) → Sized t → used t < capacity t → Created t x l
unfolding create
created t x l z room =
    let ns = numbers_of x l in
    let seven = numbers_seven x l in
    let head = sized_head z in
    let low : used t < largest = omega (arith, sized_low z) in
    let row : row_width t * new_entry t + row_width t ≤ size t = sized_row z (new_entry t) (omega (arith, sized_new z)) in
    let one : used (create t x l) ≡ used t + 1 = add_used t ns seven low head row in
    record {
      one = one;
      grows = add_grows t ns seven low head row;
      margins = add_margins t ns seven z (omega arith);
      untouched = add_untouched t ns seven low head row;
      uses = record { low = new_real t; high = omega (arith, sized_new z) };
      reads = create_term t ns seven row;
    }
