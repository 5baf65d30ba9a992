-- `handles::next_handle` meets its contract: past the form's knowers the rule is guarded too, and below them the word's place is small.
use native.Mathlib.Omega.{arith}
use mathlib.Core.Path.{sym, ◌∙◌}
use Rattle.rules.proofs.Words.{most_high}
use Rattle.rules.proofs.Granting.{next_in, next_out}
use Rattle.handles.proofs.next_handle.Goals as goal

pub returns-then-most-k : goal.returns-then-most-k
returns-then-most-k c = sym (next_out _ _ (rw c.most.ensures at c.if-most-k.true))

pub overflow_add-k : goal.overflow_add-k
overflow_add-k c = omega (arith, c.most.ensures, most_high c.args.t.now)

pub returns : goal.returns
returns c = c.word.ensures ∙ sym (next_in _ _ (rw c.most.ensures at c.if-most-k.false))
