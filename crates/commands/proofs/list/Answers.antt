-- `commands::list` meets its contract: the count and the handles are tested for 4, then all of the first for 5, then their entries are
-- listed.
use mathlib.Core.Path.{refl, sym, ◌∙◌}
use Rattle.rules.specs.Handles.{entry_of}
use Rattle.rules.specs.Meaning.{said}
use Rattle.rules.proofs.Needs.{ends}
use Rattle.beside.proofs.Asked.{asked_fits}
use Rattle.commands.proofs.Arrays.{padded_take, padded_again}
use Rattle.commands.proofs.Ways.{went_on, stopped, refusal}
use Rattle.commands.proofs.Listing.{unasked_list, unheld_list, held_list}
use Rattle.commands.proofs.list.Goals as goal

pub returns-then-not-list_is_asked : goal.returns-then-not-list_is_asked
unfolding said
returns-then-not-list_is_asked c =
    let both = ends (unasked_list _ _ _ (sym c.list_is_asked.ensures ∙ c.if-not-list_is_asked.true)) (refl, refl) in
    record { answer = both.0; table = both.1 }

pub look_up-requires : goal.look_up-requires
look_up-requires c = asked_fits _ _ (sym c.list_is_asked.ensures ∙ c.if-not-list_is_asked.false)

pub returns-in_err-entries : goal.returns-in_err-entries
returns-in_err-entries c =
    let none = stopped _ _ _ c.ok_or.ensures.value _ c.in_err-entries.was in
    let answer = refusal _ _ _ c.ok_or.ensures.value _ c.in_err-entries.was c.from_residual.result c.from_residual.ensures.1 in
    let both = ends (unheld_list _ _ _ (sym c.list_is_asked.ensures ∙ c.if-not-list_is_asked.false) (rw none at c.look_up.ensures)) (answer, refl) in
    record { answer = both.0; table = both.1 }

pub make_list_of-requires : goal.make_list_of-requires
make_list_of-requires c =
    let few = asked_fits _ _ (sym c.list_is_asked.ensures ∙ c.if-not-list_is_asked.false) in
    let some = went_on _ _ _ c.ok_or.ensures.value _ c.in_ok-entries.was in
    record { count = few; elements = padded_again (entry_of _ 0) c.args.handles c.args.count few _ (rw some at c.look_up.ensures).1 }

pub returns : goal.returns
returns c =
    let asked = sym c.list_is_asked.ensures ∙ c.if-not-list_is_asked.false in
    let some = went_on _ _ _ c.ok_or.ensures.value _ c.in_ok-entries.was in
    let all = rw some at c.look_up.ensures in
    let both = ends
    (held_list _ _ _ _ asked all.0 (padded_take (entry_of _ 0) c.args.handles c.args.count (asked_fits _ _ asked) _ all.1))
    (c.make_list_of.ensures.answer, c.make_list_of.ensures.table) in
    record { answer = both.0; table = both.1 }
