-- `handles::set_handle` meets its contract: past the form's knowers the rule writes nothing either.
use native.Mathlib.Omega.{arith}
use mathlib.Core.Path.{refl, sym, ◌∙◌}
use borrow.Author.Tests.{le-leb, lt-leb}
use Rattle.rules.specs.Table.{set_handle}
use Rattle.rules.proofs.Words.{most_high}
use Rattle.handles.proofs.set_handle.Goals as goal

pub returns-then-most-k : goal.returns-then-most-k
unfolding set_handle
returns-then-most-k c = rw (lt-leb _ _ (rw c.most.ensures at c.if-most-k.true)) refl

pub overflow_add-k : goal.overflow_add-k
overflow_add-k c = omega (arith, c.most.ensures, most_high c.args.t.now)

pub returns : goal.returns
unfolding set_handle
returns c = c.put.ensures ∙ sym (rw (le-leb _ _ (rw c.most.ensures at c.if-most-k.false)) refl)
