-- What no command writes: the head's spare words, and the words past the last row. Creating and granting write rows of entries and the
-- head's other words alone. Assumes nothing.
use Prim.Native.Nat.{ℕ, ◌+◌, ◌*◌, ◌≤◌, ◌<◌}
use native.Mathlib.Omega.{arith}
use native.Mathlib.Decide.{dec_le}
use mathlib.Core.Path.{◌≡◌, refl, ◌∙◌}
use mathlib.Core.List.{List}
use lib.ListN.{length, get_or}
use Rattle.rules.specs.Table.{Table, most, row_width, word, capacity, used}
use Rattle.rules.specs.Terms.{new_entry, add_entry}
use Rattle.rules.specs.Handles.{grant}
use Rattle.rules.proofs.Granting.{grant_beyond, grant_spare, grant_after}
use Rattle.rules.proofs.Creating.{new_real, create_word, create_after}
use Rattle.rules.proofs.Grows.{Grows, grows_most}
use Rattle.rules.proofs.Sized.{run_end, row_before, end_kept, Sized, sized_new, sized_row}

pub record Margins (t t' : Table) : Type 0 where
  pub spare : (i : ℕ) → most t + 5 < i → i < row_width t → word t' 0 i ≡ word t 0 i
  pub past : (i : ℕ) → run_end t ≤ i → get_or t' i 0 ≡ get_or t i 0

pub margins_refl : (t : Table) → Margins t t
margins_refl t = record { spare = λ i a b. refl; past = λ i a. refl }

pub margins_trans : {a b c : Table} → Grows a b → Margins a b → Margins b c → Margins a c
margins_trans g x y = record {
  spare = λ i p q. y.spare i (omega (arith, grows_most g)) (omega (arith, grows_most g)) ∙ x.spare i p q;
  past = λ i p. y.past i (omega (arith, end_kept g)) ∙ x.past i p;
}

pub grant_margins : (t : Table) (k e : ℕ) → 1 ≤ e → e ≤ capacity t → Margins t (grant t k e)
grant_margins t k e real low = go (dec_le k (most t))
  where
    go : Dec (k ≤ most t) → Margins t (grant t k e)
    go (yes l) = record {
      spare = λ i a b. grant_spare t k e i real l a b;
      past = λ i a. grant_after t k e i (omega arith) (omega (arith, row_before t e low));
    }
    go (no l) = rw (grant_beyond t k e (omega arith)) (margins_refl t)

pub add_margins : (t : Table) (ns : List ℕ) → length ns ≡ 7 → Sized t → used t + 1 ≤ capacity t → Margins t (add_entry t ns)
add_margins t ns seven z low = record {
  spare = λ i a b. create_word t ns seven row 0 i b (λ q. omega (arith, new_real t)) (λ q r. omega arith);
  past = λ i a. create_after t ns seven row i (omega arith) (omega (arith, row_before t (new_entry t) (omega (arith, sized_new z))));
}
  where
    row : row_width t * new_entry t + row_width t ≤ length t
    row = sized_row z (new_entry t) (omega (arith, sized_new z))
