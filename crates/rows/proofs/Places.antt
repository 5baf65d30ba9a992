-- Where a row lies, and a row that was lent as a middle part, filled, and is back. Assumes nothing.
use Prim.Native.Nat.{ℕ, zero, suc, ◌+◌, ◌*◌, ◌-◌, ◌≤◌, ◌<◌}
use native.Mathlib.Nat.{zero-sub, sub-zero, suc-sub-suc}
use native.Mathlib.Omega.{arith}
use mathlib.Core.Path.{◌≡◌, ap, ◌∙◌}
use mathlib.Core.List.{List, ◌++◌}
use lib.ListN.{length, take, drop, replicate}
use borrow.Rule.Slice.PartMut.{mid_of, put_mid, Post-is, mid_len}
use borrow.Author.Tests.{le-leb, lt-leb}
use Rattle.rules.specs.Table.{Table, size, most, row_width, with_row}
use Rattle.rules.proofs.Words.{row_past, row_low}
use Rattle.rows.specs.Row.{filled}

-- a row of the table's width starts at no large number
pub place_low : (t : Table) (w e : ℕ) → w ≡ row_width t → e < 65536 → w * e ≤ 20 * 65536
place_low t w e q h = rw q (row_low t e h)

drop_replicate : (n m a : ℕ) → drop n (replicate m a) ≡ replicate (m - n) a
drop_replicate zero m a = simp sub-zero
drop_replicate (suc n) zero a = simp zero-sub
drop_replicate (suc n) (suc m) a = simp suc-sub-suc (drop_replicate n m a)

-- ---- a row of its own
pub filled_short : (ns row : List ℕ) → length row < 7 → filled ns row ≡ row
unfolding filled
filled_short ns row h = rw (lt-leb 7 (length row) h)

-- seven numbers over a row of zeros
pub filled_long : (ns row zeros first : List ℕ) → length ns ≡ 7 → 7 ≤ length row → zeros ≡ replicate (length row) 0 → first ≡ ns
    → first ++ drop 7 zeros ≡ filled ns row
unfolding filled
filled_long ns row zeros first n h q r = rw (r, q, le-leb 7 (length row) h) (ap (λ (x : List ℕ). ns ++ x) (drop_replicate 7 (length row) 0))

-- ---- the row in its table
module _ (t : Table) (e w : ℕ) (isWidth : w ≡ row_width t) where
  row_back : (ys : List ℕ) → w * e + w ≤ size t → put_mid (w * e) (w * e + w - w * e) t ys ≡ with_row t e ys
  unfolding with_row
  row_back ys h =
      rw (← isWidth, le-leb _ _ h) (ap (λ (l : List ℕ). take (w * e) t ++ (ys ++ l)) (Post-is (w * e) (w * e + w) t (omega arith)))

  pub row_filled : (ns last : List ℕ) → w * e + w ≤ size t → last ≡ filled ns (mid_of (w * e) (w * e + w - w * e) t)
      → put_mid (w * e) (w * e + w - w * e) t last ≡ with_row t e (ns ++ replicate (1 + most t) 0)
  unfolding filled
  row_filled ns last h q =
      let long : length (mid_of (w * e) (w * e + w - w * e) t) ≡ w = mid_len (w * e) (w * e + w) t h ∙ omega arith in
      let big : 7 ≤ w = omega arith in
      let rest : w - 7 ≡ 1 + most t = omega arith in
      rw (q, long, le-leb 7 w big, rest) (row_back (ns ++ replicate (1 + most t) 0) h)

  pub row_outside : (ys : List ℕ) → size t < w * e + w → with_row t e ys ≡ t
  row_outside ys h = row_past t e ys (rw isWidth at h)
