-- `commands::store` meets its contract: the entry that is found is given, and a new one where none is.
use mathlib.Core.Path.{◌∙◌}
use Rattle.rules.specs.Commands.{store}
use Rattle.rules.proofs.Needs.{ends}
use Rattle.rows.proofs.Search.{found, nothing}
use Rattle.commands.proofs.Ways.{gives_found, gives_unfound}
use Rattle.commands.proofs.Making.{new_datum}
use Rattle.commands.proofs.store.Goals as goal

pub returns-in-Some : goal.returns-in-Some
unfolding store
returns-in-Some c =
    let p = found _ _ _ c.find_datum.ensures c.in-Some.is in
    let both = ends (gives_found _ _ _ _ p.0 p.1) (c.give.ensures.answer, c.give.ensures.table) in
    record { answer = both.0; table = both.1 }

pub returns-in-None : goal.returns-in-None
unfolding store
returns-in-None c =
    let both = ends (gives_unfound _ _ _ (nothing _ _ c.find_datum.ensures c.in-None.is) ∙ new_datum _ _) (c.give_new.ensures.answer, c.give_new.ensures.table) in
    record { answer = both.0; table = both.1 }
