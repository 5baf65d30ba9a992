-- `commands::make_list_of` meets its contract: a secret key is 6; else the list that is there is given, or a new one.
use Prim.Native.Nat.{ℕ, ◌<◌}
use mathlib.Core.Path.{◌≡◌, refl, sym, ap, ◌∙◌}
use lib.ListN.{get_or}
use Rattle.std.proofs.Common.{rules}
use Rattle.terms.proofs.Numbers.{number_at}
use Rattle.rules.specs.Choice.{every, sum_of}
use Rattle.rules.specs.Table.{length_at}
use Rattle.rules.specs.Commands.{may_be_listed}
use Rattle.rules.specs.Meaning.{said}
use Rattle.rules.proofs.Needs.{ends}
use Rattle.rows.proofs.Search.{found, nothing}
use Rattle.commands.proofs.Arrays.{numbers_first}
use Rattle.commands.proofs.Ways.{gives_found, gives_unfound}
use Rattle.commands.proofs.Listing.{secret_listed, none_secret, new_list}
use Rattle.commands.proofs.make_list_of.Goals as goal

pub returns-then-not-may_be_listed : goal.returns-then-not-may_be_listed
unfolding said
returns-then-not-may_be_listed c =
    let first = numbers_first _ c.args.count c.args.elements c.from.ensures in
    let both = ends (secret_listed _ _ (ap (every (may_be_listed _)) (sym first) ∙ sym c.may_be_listed.ensures ∙ c.if-not-may_be_listed.true)) (refl, refl) in
    record { answer = both.0; table = both.1 }

pub returns-in-Some : goal.returns-in-Some
returns-in-Some c =
    let first = numbers_first _ c.args.count c.args.elements c.from.ensures in
    let p = found _ _ _ c.find_list.ensures c.in-Some.is in
    let both = ends (none_secret _ _ (ap (every (may_be_listed _)) (sym first) ∙ sym c.may_be_listed.ensures ∙ c.if-not-may_be_listed.false) ∙ gives_found _ _ _ _ p.0 p.1) (c.give.ensures.answer, c.give.ensures.table) in
    record { answer = both.0; table = both.1 }

pub returns : goal.returns
returns c =
    let first = numbers_first _ c.args.count c.args.elements c.from.ensures in
    let at : (i : ℕ) → i < 4 → get_or c.map.result i 0 ≡ number_at c.args.elements i =
    λ i l. let k = (c.map.ensures.items.at i (record { 0 = 0 }) 0 l).2 in search rules in
    let sum = c.sum_of_lengths-len.ensures.sum ∙ ap (sum_of (length_at _)) (numbers_first _ c.args.count c.args.elements c.from-2.ensures) in
    let both = ends
    (none_secret _ _ (ap (every (may_be_listed _)) (sym first) ∙ sym c.may_be_listed.ensures ∙ c.if-not-may_be_listed.false)
    ∙ gives_unfound _ _ _ (nothing _ _ c.find_list.ensures c.in_default.is)
    ∙ new_list _ _ c.args.elements _ _ c.requires.count c.well_formed.1.1.0.1.0.1 at c.requires.elements sum)
    (c.give_new.ensures.answer, c.give_new.ensures.table) in
    record { answer = both.0; table = both.1 }
