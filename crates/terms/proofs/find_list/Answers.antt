-- `terms::find_list` meets its contract: what has the list's sure words is gone through upwards, and when e is passed none up to e is that
-- list; inside, when place k is reached the first k elements are alike, so the first difference shuts the entry out, and no difference
-- makes it the lowest.
use Prim.Native.Nat.{ℕ, ◌<◌}
use native.Mathlib.Omega.{arith}
use mathlib.Core.Path.{◌≡◌, refl, sym, ◌∙◌}
use mathlib.Core.Logic.{◌≢◌}
use mathlib.Core.Bool.{Bool, true, false, not}
use lib.Dec.{eqb}
use borrow.Author.Tests.{eqb-true, eqb-false, not-true, not-false}
use lib.ListN.{length}
use Rattle.rules.specs.Choice.{lowest}
use Rattle.rules.specs.Terms.{list_type, find_list}
use Rattle.rules.specs.Meaning.{found_at}
use Rattle.rows.proofs.Search.{none_passes, next_used, next_passes, next_fails}
use Rattle.terms.proofs.Lists.{alike_none, alike_next, has_sure, other_type, other_count, other_element, the_list}
use Rattle.terms.proofs.find_list.Goals as goal

-- what a comparison of two entries says of their numbers
module _ {r : Bool} {x y : ℕ} (q : r ≡ not (eqb x y)) where
  not_same : r ≡ true → x ≢ y
  not_same p = eqb-false x y (not-true _ (sym q ∙ p))

  same_number : r ≡ false → x ≡ y
  same_number p = eqb-true x y (not-false _ (sym q ∙ p))

pub scan-init : goal.scan-init
unfolding lowest
scan-init c =
    let four : length c.args.elements ≡ 4 = c.well_formed.1.1.0.1.0.1 in
    (refl, λ x is. has_sure _ x _ c.args.elements four is _ _ _ _ c.sure_place.ensures c.sure_number.ensures c.sure_place-2.ensures c.sure_number-2.ensures)

pub scan-smaller-then-kind : goal.scan-smaller-then-kind
scan-smaller-then-kind c =
    let further = next_used _ _ _ _ _ _ c.scan.invariant.1 _ c.scan.invariant.0 _ c.next_with.ensures _ c.in-Some.is in
    omega (arith, further.0, further.1)

pub scan-preserved-then-kind : goal.scan-preserved-then-kind
scan-preserved-then-kind c =
    let other : c.kind.result ≢ list_type = λ q. omega (arith, q) in
    (next_fails _ _ _ _ _ _ c.scan.invariant.1 _ c.scan.invariant.0 _ c.next_with.ensures _ c.in-Some.is (other_type _ _ _ (λ q. other (c.kind.ensures ∙ q))), c.scan.invariant.1)

pub scan-smaller-then-min-wanted : goal.scan-smaller-then-min-wanted
scan-smaller-then-min-wanted c =
    let further = next_used _ _ _ _ _ _ c.scan.invariant.1 _ c.scan.invariant.0 _ c.next_with.ensures _ c.in-Some.is in
    omega (arith, further.0, further.1)

pub scan-preserved-then-min-wanted : goal.scan-preserved-then-min-wanted
scan-preserved-then-min-wanted c =
    let few = c.min-wanted in
    let four : length c.args.elements ≡ 4 = c.well_formed.1.1.0.1.0.1 in
    let other : c.min.result ≢ few.result = λ q. omega (arith, q) in (
      next_fails _ _ _ _ _ _ c.scan.invariant.1 _ c.scan.invariant.0 _ c.next_with.ensures _ c.in-Some.is
          (other_count _ _ _ c.args.elements four _ _ _ c.count.ensures c.min.ensures few.ensures other),
      c.scan.invariant.1,
    )

pub loop-k-init : goal.loop-k-init
loop-k-init c = alike_none _ _ c.args.elements

pub bounds-elements-k : goal.bounds-elements-k
bounds-elements-k c = omega (arith, c.min-wanted.ensures)

pub scan-smaller : goal.scan-smaller
scan-smaller c =
    let further = next_used _ _ _ _ _ _ c.scan.invariant.1 _ c.scan.invariant.0 _ c.next_with.ensures _ c.in-Some.is in
    omega (arith, further.0, further.1)

pub scan-preserved : goal.scan-preserved
scan-preserved c =
    let few = c.min-wanted in
    let four : length c.args.elements ≡ 4 = c.well_formed.1.1.0.1.0.1 in
    let many : c.min.result ≡ few.result = omega arith in
    let place : c.loop-k.k < few.result = c.loop-k-test.true in (
      next_fails _ _ _ _ _ _ c.scan.invariant.1 _ c.scan.invariant.0 _ c.next_with.ensures _ c.in-Some.is
          (other_element _ _ _ c.args.elements four _ _ _ c.count.ensures c.min.ensures few.ensures many c.loop-k.k place
          (λ q. not_same c.ne.ensures c.if-ne.true (c.word.ensures ∙ q))),
      c.scan.invariant.1,
    )

pub loop-k-preserved : goal.loop-k-preserved
loop-k-preserved c =
    alike_next _ _ c.args.elements c.loop-k.k c.loop-k.invariant (sym c.word.ensures ∙ same_number c.ne.ensures c.if-ne.false)

pub returns-in_default : goal.returns-in_default
unfolding found_at find_list
returns-in_default c =
    none_passes _ _ _ _ _ _ c.scan.invariant.1 _ c.scan.invariant.0 c.next_with.result c.next_with.ensures c.in_default.is

pub returns-after-loop-k : goal.returns-after-loop-k
unfolding found_at find_list
returns-after-loop-k c =
    let few = c.min-wanted in
    let four : length c.args.elements ≡ 4 = c.well_formed.1.1.0.1.0.1 in
    let many : c.min.result ≡ few.result = omega arith in
    let end : c.loop-k.k ≡ few.result = omega arith in
    next_passes _ _ _ _ _ _ c.scan.invariant.1 _ c.scan.invariant.0 _ c.next_with.ensures _ c.in-Some.is
    (the_list _ _ _ c.args.elements four _ _ _ c.count.ensures c.min.ensures few.ensures
    (sym c.kind.ensures ∙ c.if-kind.false) many (rw end at c.loop-k.invariant))
