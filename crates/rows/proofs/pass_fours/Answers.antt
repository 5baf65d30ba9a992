-- `rows::pass_fours` meets its contract: a row is passed only where its word k isn't v.
use Prim.Native.Nat.{ℕ, ◌+◌}
use native.Mathlib.Omega.{arith}
use mathlib.Core.Path.{◌≡◌}
use mathlib.Core.Logic.{◌≢◌}
use lib.ListN.{get_or}
use Rattle.rules.specs.Table.{Table, row_width}
use Rattle.rules.proofs.Words.{most_high}
use Rattle.rows.specs.Search.{Passes}
use Rattle.rows.proofs.Search.{passes_more}
use Rattle.rows.proofs.pass_fours.Goals as goal

-- the rows of one turn, m apart
module _ (t : Table) (k v m from at : ℕ) (width : m ≡ row_width t) (p : Passes t k v from at) (h : get_or t (at + m + k) 0 ≢ v) where
  first : Passes t k v from (at + m)
  first = passes_more t k v m from at width h p

  module _ (h₂ : get_or t (at + m + m + k) 0 ≢ v) where
    second : Passes t k v from (at + m + m)
    second = passes_more t k v m from (at + m) width h₂ first

    module _ (h₃ : get_or t (at + m + m + m + k) 0 ≢ v) where
      third : Passes t k v from (at + m + m + m)
      third = passes_more t k v m from (at + m + m) width h₃ second

pub loop-at-init : goal.loop-at-init
loop-at-init c = (omega arith, omega (arith, c.requires.0), λ e j w r. r)

pub overflow_mul-width : goal.overflow_mul-width
overflow_mul-width c =
    omega (arith, c.row_width-width.ensures, most_high c.args.t.now)

pub overflow_add-at : goal.overflow_add-at
overflow_add-at c =
    omega (arith, c.row_width-width.ensures, most_high c.args.t.now)

pub returns-then-t-a : goal.returns-then-t-a
returns-then-t-a c =
    record { further = c.loop-at.invariant.0; passes = c.loop-at.invariant.2 }

pub returns-then-t-b : goal.returns-then-t-b
returns-then-t-b c =
    record { further = omega (arith, c.loop-at.invariant.0); passes = first _ _ _ _ _ _ c.row_width-width.ensures c.loop-at.invariant.2 c.if-t-a.false }

pub returns-then-t-c : goal.returns-then-t-c
returns-then-t-c c =
    record { further = omega (arith, c.loop-at.invariant.0); passes = second _ _ _ _ _ _ c.row_width-width.ensures c.loop-at.invariant.2 c.if-t-a.false c.if-t-b.false }

pub returns-then-t-d : goal.returns-then-t-d
returns-then-t-d c =
    record { further = omega (arith, c.loop-at.invariant.0); passes = third _ _ _ _ _ _ c.row_width-width.ensures c.loop-at.invariant.2 c.if-t-a.false c.if-t-b.false c.if-t-c.false }

pub loop-at-smaller : goal.loop-at-smaller
loop-at-smaller c = omega (arith, c.row_width-width.ensures)

pub loop-at-preserved : goal.loop-at-preserved
loop-at-preserved c =
    let width = c.row_width-width.ensures in
    let three = third _ _ _ _ _ _ width c.loop-at.invariant.2 c.if-t-a.false c.if-t-b.false c.if-t-c.false in
    (omega (arith, c.loop-at.invariant.0), omega arith, passes_more _ _ _ _ _ _ width c.if-t-d.false three)

pub returns : goal.returns
returns c = record { further = c.loop-at.invariant.0; passes = c.loop-at.invariant.2 }
