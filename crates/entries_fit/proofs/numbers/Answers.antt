-- `entries_fit::numbers` meets its contract: the seven numbers stand at their places.
use native.Mathlib.Omega.{arith}
use mathlib.Core.Path.{refl}
use Rattle.std.proofs.Common.{ℕ, ◌≡◌, ◌<◌, ◌+◌, ◌*◌, get_or}
use Rattle.std.proofs.lemmas.List.{get_or-take, get_or-drop}
use Rattle.std.specs.List.{slice_range}
use Rattle.rules.specs.Table.{Table, row_width, word}
use Rattle.rows.proofs.Places.{place_low}
use Rattle.entries_fit.proofs.numbers.Goals as goal

pub overflow_mul-from : goal.overflow_mul-from
overflow_mul-from c = omega (arith, place_low _ _ c.from.result c.row_width.ensures (omega arith))

pub overflow_add-from : goal.overflow_add-from
overflow_add-from c = omega (arith, place_low _ _ c.from.result c.row_width.ensures (omega arith))

-- number k of the slice that starts at a row's place
at : (t : Table) (w e i k : ℕ) → w ≡ row_width t → i ≡ e → k < 7 → get_or (slice_range t (w * i) (w * i + 7)) k 0 ≡ word t e k
unfolding word
at t w e i k p q h = rw (p, q) (grind (arith, get_or-take, get_or-drop))

pub returns-in-Some-len7 : goal.returns-in-Some-len7
returns-in-Some-len7 c =
    let there = at c.args.t.now _ c.args.e.0 _ in
    let w = c.row_width.ensures in
    let e = c.from.ensures in
    rw (
      c.in-Some-len7.ensures.lookup.0.2,
      there 0 w e (omega arith),
      there 1 w e (omega arith),
      there 2 w e (omega arith),
      there 3 w e (omega arith),
      there 4 w e (omega arith),
      there 5 w e (omega arith),
      there 6 w e (omega arith),
    )
    refl
