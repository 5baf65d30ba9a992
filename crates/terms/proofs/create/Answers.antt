-- `terms::create` meets its contract: it goes the rule's way, the row first and then the number of used entries.
use Prim.Native.Nat.{ℕ, ◌+◌}
use mathlib.Core.Path.{◌≡◌, ap, ◌∙◌}
use mathlib.Core.List.{List, ◌++◌}
use lib.ListN.{replicate}
use Rattle.rules.specs.Table.{Table, most, raised, put, with_row}
use Rattle.rules.specs.Terms.{new_entry, add_entry}
use Rattle.terms.proofs.create.Goals as goal

-- the row written, and then the number of used entries
create_goes : (t mid last : Table) (ns : List ℕ) (n : ℕ) → n ≡ new_entry t → mid ≡ with_row t n (ns ++ replicate (1 + most t) 0)
    → last ≡ put mid 0 4 n → last ≡ add_entry t ns
unfolding add_entry
create_goes t mid last ns n p q r = rw (← p, ← q) r

pub returns : goal.returns
unfolding new_entry
returns c =
    let t = c.args.t.now in
    let next : c.raised-n.result ≡ new_entry t =
    c.raised-n.ensures ∙ ap raised c.used-used.ensures in
    record { entry = next; table = create_goes _ _ _ _ _ next c.write_entry.ensures c.put.ensures }
