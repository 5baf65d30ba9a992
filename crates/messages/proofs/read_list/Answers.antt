-- `messages::read_list` meets its contract: it goes by the count as the rule does.
use native.Mathlib.Omega.{arith}
use mathlib.Core.Path.{refl}
use borrow.Author.Tests.{eq-eqb, ne_eqb, le-leb, lt-leb}
use Rattle.rules.specs.Steps.{read_list}
use Rattle.messages.specs.Reading.{read_as}
use Rattle.messages.proofs.read_list.Goals as goal

pub returns-in-1 : goal.returns-in-1
unfolding read_list
returns-in-1 c = rw (← c.count.ensures, eq-eqb _ 1 c.in-1.is) c.read_one.ensures

pub returns-in-2 : goal.returns-in-2
unfolding read_list
returns-in-2 c = rw (← c.count.ensures, c.in-2.is) c.read_two.ensures

pub returns-in-3 : goal.returns-in-3
unfolding read_list
returns-in-3 c = let k = c.count.result in
    rw (
      ← c.count.ensures,
      ne_eqb k 1 (omega arith),
      ne_eqb k 2 (omega arith),
      le-leb 3 k (omega arith),
      le-leb k 4 (omega arith),
    )
    c.read_more.ensures

pub returns-in_default : goal.returns-in_default
unfolding read_as read_list
returns-in_default c = let k = c.count.result in
    rw (← c.count.ensures, ne_eqb k 1 (omega arith), ne_eqb k 2 (omega arith), lt-leb 3 k (omega arith)) refl

pub returns-in_default-2 : goal.returns-in_default-2
unfolding read_as read_list
returns-in_default-2 c = let k = c.count.result in
    rw (
      ← c.count.ensures,
      ne_eqb k 1 (omega arith),
      ne_eqb k 2 (omega arith),
      le-leb 3 k (omega arith),
      lt-leb k 4 (omega arith),
    )
    refl
