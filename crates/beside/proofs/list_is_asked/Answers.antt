-- `beside::list_is_asked` meets its contract: the handles after the first `count` decide.
use native.Mathlib.Omega.{arith}
use lib.Dec.{eqb}
use lib.ListN.{take, drop}
use Prim.Native.Nat.{◌-◌}
use borrow.Author.Rules.{rules}
use borrow.Author.Tests.{tests}
use Rattle.std.proofs.lemmas.Iterator.{YieldsList-from_slice}
use Rattle.std.proofs.lemmas.Iterator.Search.{all_from_yields_List}
use Rattle.rules.specs.Commands.{list_is_asked}
use Rattle.rules.specs.declared.Handle.{Handle}
use Rattle.beside.proofs.Asked.{zeros_left}
use Rattle.beside.proofs.list_is_asked.Goals as goal

pub returns-then-contains : goal.returns-then-contains
returns-then-contains c =
    zeros_left c.args.handles c.args.count c.from.result c.all.result (omega arith) (search rules) (search rules) c.from.ensures
    (all_from_yields_List (λ (h : Handle). eqb h.0 0) _ _ c.all.result c.all.ensures.ran
    (YieldsList-from_slice (take (4 - c.from.result) (drop c.from.result c.args.handles)) (cc))
    (λ x b q k. search (rules, tests)))

pub returns-else-contains : goal.returns-else-contains
unfolding list_is_asked
returns-else-contains c = search rules
