-- `bench_calls::bench_perform` meets its contract: the rule's own tests, in its order, then the command and its answer.
use mathlib.Core.Path.{refl}
use Rattle.rules.specs.Calls.{performs}
use Rattle.bench_calls.proofs.Calling.{no_record_read, more_than_one, no_room, one_record}
use Rattle.bench_calls.proofs.bench_perform.Goals as goal

pub returns-then-next-bytes : goal.returns-then-next-bytes
returns-then-next-bytes c =
    let a = c.args in
    let r = c.read_record in
    let is = more_than_one a.bytes.now a.table.now a.answer.now r.result r.ensures.read c.in-Record.is c.if-next-bytes.true in
    record { value = rw is refl; table_after = rw is refl; answer_after = rw is refl }

pub returns-then-answer-lt4 : goal.returns-then-answer-lt4
returns-then-answer-lt4 c =
    let a = c.args in
    let r = c.read_record in
    let full = c.if-answer-lt4.true in
    let is = no_room a.bytes.now a.table.now a.answer.now r.result r.ensures.read c.in-Record.is c.if-next-bytes.false full in
    record { value = rw is refl; table_after = rw is refl; answer_after = rw is refl }

pub returns : goal.returns
unfolding performs
returns c =
    let a = c.args in
    let r = c.read_record in
    let room = c.if-answer-lt4.false in
    let is = one_record a.bytes.now a.table.now a.answer.now r.result r.ensures.read c.in-Record.is c.if-next-bytes.false room in
    record {
      value = rw is refl;
      table_after = rw is c.perform-a.ensures.table;
      answer_after = rw (is, c.copy_from_slice.ensures.after, c.four_numbers.ensures, c.perform-a.ensures.answer) refl;
    }

pub returns-in_default : goal.returns-in_default
returns-in_default c =
    let a = c.args in
    let is = no_record_read a.bytes.now a.table.now a.answer.now c.read_record.result c.read_record.ensures.read c.in_default.not-Record in
    record { value = rw is refl; table_after = rw is refl; answer_after = rw is refl }
