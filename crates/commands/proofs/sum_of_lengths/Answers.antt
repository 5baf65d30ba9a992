-- `commands::sum_of_lengths` meets its contract: all are added up, each at most 65535.
use Prim.Native.Nat.{◌+◌, ◌*◌}
use native.Mathlib.Omega.{arith}
use mathlib.Core.Path.{◌≡◌, ◌∙◌}
use Rattle.std.proofs.Common.{rules}
use Rattle.std.proofs.iter.runs.Sources.{sums}
use Rattle.std.specs.List.{sum_by}
use Rattle.rules.specs.Table.{row_width, word, length_at}
use Rattle.rules.specs.declared.Entry.{Entry}
use Rattle.terms.specs.Elements.{numbers}
use Rattle.terms.proofs.Numbers.{numbers_length}
use Rattle.commands.proofs.Arrays.{sum_numbers, sum_most}
use Rattle.commands.proofs.sum_of_lengths.Goals as goal

pub returns-clause-sum : goal.returns-clause-sum
returns-clause-sum c =
    let all : c.sum.result ≡ sum_by (λ (e : Entry). length_at c.args.t.now e.0) c.args.elements.now = search (rules, sums) in
    all ∙ sum_numbers (length_at c.args.t.now) c.args.elements.now

pub returns-clause-small : goal.returns-clause-small
unfolding word
returns-clause-small c =
    let es = c.args.elements.now in
    let all : c.sum.result ≡ sum_by (λ (e : Entry). length_at c.args.t.now e.0) es = search (rules, sums) in
    let most = sum_most (length_at c.args.t.now) 65535 (λ e. omega (arith, c.type_inv.t (row_width c.args.t.now * e + 6))) (numbers es) in
    omega (arith, all, sum_numbers (length_at c.args.t.now) es, most, numbers_length es)
