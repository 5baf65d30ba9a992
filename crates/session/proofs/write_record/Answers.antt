-- `session::write_record` meets its contract: the rule's refusals in its order, then the record's bytes one after another.
use native.Mathlib.Omega.{arith}
use mathlib.Core.Path.{sym, ap, ◌∙◌}
use lib.ListN.{length, length-take}
use Rattle.rules.specs.Meaning.{asked}
use Rattle.session.specs.Session.{written_as}
use Rattle.session.proofs.Records.{values_long, write_none, write_short, write_all}
use Rattle.session.proofs.write_record.Goals as goal

pub returns-then-not-has_record : goal.returns-then-not-has_record
unfolding written_as
returns-then-not-has_record c = let a = c.args in
    let both = write_none (asked a.c) a.out.now (sym c.has_record.ensures ∙ c.if-not-has_record.true) in
    record { written = both.0; output = both.1 }

pub slice_bounds-values-end : goal.slice_bounds-values-end
slice_bounds-values-end c =
    let has = sym c.has_record.ensures ∙ c.if-not-has_record.false in
    let are = values_long c.args.c _ _ _ has c.count_of-n.ensures c.from.ensures c.values_of.ensures in
    omega (arith, are.1, length-take c.from.result c.values_of.result)

pub slice_bounds-values-end-2 : goal.slice_bounds-values-end-2
slice_bounds-values-end-2 c =
    let has = sym c.has_record.ensures ∙ c.if-not-has_record.false in
    sym (values_long c.args.c _ _ _ has c.count_of-n.ensures c.from.ensures c.values_of.ensures).1

pub returns-then-out-size : goal.returns-then-out-size
unfolding written_as
returns-then-out-size c = let a = c.args in
    let has = sym c.has_record.ensures ∙ c.if-not-has_record.false in
    let are = values_long a.c _ _ _ has c.count_of-n.ensures c.from.ensures c.values_of.ensures in
    let both = write_short (asked a.c) a.out.now _ has (sym (ap length are.2)) c.if-out-size.true in
    record { written = both.0; output = both.1 }

pub overflow_mul-n : goal.overflow_mul-n
overflow_mul-n c =
    let has = sym c.has_record.ensures ∙ c.if-not-has_record.false in
    let are = values_long c.args.c _ _ _ has c.count_of-n.ensures c.from.ensures c.values_of.ensures in
    omega (arith, are.0, c.from.ensures)

pub overflow_add-n : goal.overflow_add-n
overflow_add-n c =
    let has = sym c.has_record.ensures ∙ c.if-not-has_record.false in
    let are = values_long c.args.c _ _ _ has c.count_of-n.ensures c.from.ensures c.values_of.ensures in
    omega (arith, are.0, c.from.ensures)

pub returns : goal.returns
unfolding written_as
returns c =
    let a = c.args in
    let has = sym c.has_record.ensures ∙ c.if-not-has_record.false in
    let are = values_long a.c _ _ _ has c.count_of-n.ensures c.from.ensures c.values_of.ensures in
    let n = are.1 ∙ c.from.ensures in
    let both = write_all (asked a.c) a.out.now _ has (sym (ap length are.2)) c.if-out-size.false
    c.kind_of.ensures are.2 (rw n c.put_number.ensures) c.put_numbers.ensures in
    record { written = both.0; output = both.1 }
