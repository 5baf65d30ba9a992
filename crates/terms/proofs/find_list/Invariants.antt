-- `terms::find_list` meets its contract: what has the list's sure words is gone through upwards, and when e is passed none up to e is that
-- list; inside, when place k is reached the first k elements are alike, so the first difference shuts the entry out, and no difference
-- makes it the lowest.
use Prim.Native.Nat.{ℕ, ◌-◌}
use mathlib.Core.Path.{◌≡◌}
use mathlib.Core.Bool.{true}
use lib.ListN.{take}
use Rattle.rules.specs.Choice.{lowest}
use Rattle.rules.specs.Table.{used}
use Rattle.rules.specs.Terms.{is_list_of}
use Rattle.rows.specs.Search.{has_both}
use Rattle.terms.specs.Elements.{numbers}
use Rattle.terms.proofs.Lists.{Alike}
use Rattle.terms.proofs.find_list.Given as goal

abbrev pub invariant-loop-k : goal.invariant-loop-k
invariant-loop-k l = Alike l.t l.e.0 l.elements l.k

abbrev pub invariant-scan : goal.invariant-scan
invariant-scan l = (lowest (is_list_of l.t (take l.count (numbers l.elements))) l.e.0 ≡ 0) × ((x : ℕ) → is_list_of l.t (take l.count (numbers l.elements)) x ≡ true → has_both l.t l.sought.k l.sought.v l.sought.j l.sought.w x ≡ true)

abbrev pub decreases-scan : goal.decreases-scan
decreases-scan l = used l.t - l.e.0
