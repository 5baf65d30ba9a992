-- The numbers of a list's four handles (rule C3).
use Rattle.std.specs.Prelude.{ℕ, List, [], ◌∷◌}
use Rattle.rules.specs.Meaning.{beside_at}
use Rattle.rules.specs.declared.Handle.{Handle}

abbrev pub numbers_beside : List Handle → List ℕ
numbers_beside hs = beside_at hs 0 ∷ beside_at hs 1 ∷ beside_at hs 2 ∷ beside_at hs 3 ∷ []
