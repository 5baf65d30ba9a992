-- `commands::may_be_listed` meets its contract: each is tested.
use mathlib.Core.Path.{◌∙◌}
use Rattle.std.proofs.Common.{rules, tests}
use Rattle.std.proofs.lemmas.Iterator.{YieldsList-from_slice}
use Rattle.std.proofs.lemmas.Iterator.Search.{all_from_yields_List}
use Rattle.rules.specs.declared.Entry.{Entry}
use Rattle.rules.specs.Commands.{may_be_listed}
use Rattle.commands.proofs.Arrays.{every_numbers}
use Rattle.commands.proofs.may_be_listed.Goals as goal

pub returns : goal.returns
unfolding may_be_listed
returns c =
    let es = c.args.elements.now in
    all_from_yields_List (λ (e : Entry). may_be_listed c.args.t.now e.0) _ _ _ c.all.ensures.ran (YieldsList-from_slice es cc) (λ x b q k. search (rules, tests))
    ∙ every_numbers (may_be_listed c.args.t.now) es
