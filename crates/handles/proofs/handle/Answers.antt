-- `handles::handle` meets its contract: past the form's knowers the rule is guarded too, and below them the word's place is small.
use native.Mathlib.Omega.{arith}
use mathlib.Core.Path.{sym, ◌∙◌}
use Rattle.rules.proofs.Words.{most_high}
use Rattle.rules.proofs.Granting.{handle_in, handle_out}
use Rattle.handles.proofs.handle.Goals as goal

pub returns-then-most-k : goal.returns-then-most-k
returns-then-most-k c = sym (handle_out _ _ _ (rw c.most.ensures at c.if-most-k.true))

pub overflow_add-k : goal.overflow_add-k
overflow_add-k c = omega (arith, c.most.ensures, most_high c.args.t.now)

pub returns : goal.returns
returns c = c.word.ensures ∙ sym (handle_in _ _ _ (rw c.most.ensures at c.if-most-k.false))
