-- The numbers of the entries that the code hands over as an array, and the words by which a list of them is sought.
use Rattle.std.specs.Prelude.{ℕ, ◌+◌, List, [], ◌∷◌, ltb, if◌then◌else◌}
use Rattle.rules.specs.Terms.{list_type}
use Rattle.rules.specs.declared.Entry.{Entry}

abbrev pub numbers : List Entry → List ℕ
numbers [] = []
numbers (e ∷ es) = e.0 ∷ numbers es

-- words that are the same in every list of n elements with x as the one after the first i: where x stands, or the type if there is none
unfoldable pub sure_place : ℕ → ℕ → ℕ
sure_place n i = if ltb i n then 2 + i else 0

-- and what they are
unfoldable pub sure_number : ℕ → ℕ → ℕ → ℕ
sure_number n i x = if ltb i n then x else list_type
