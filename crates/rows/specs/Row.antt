-- The numbers of one row as the code hands them over.
use Rattle.std.specs.Prelude.{ℕ, ◌-◌, List, [], ◌∷◌, ◌++◌, leb, length, get_or, replicate, if◌then◌else◌}

-- a term's seven numbers: type, count, four arguments, length
unfoldable pub seven : ℕ → ℕ → List ℕ → ℕ → List ℕ
seven kind count args len = kind ∷ count ∷ get_or args 0 0 ∷ get_or args 1 0 ∷ get_or args 2 0 ∷ get_or args 3 0 ∷ len ∷ []

-- a row with these seven and zeros after them, if it has room for seven
unfoldable pub filled : List ℕ → List ℕ → List ℕ
filled ns row = if leb 7 (length row) then ns ++ replicate (length row - 7) 0 else row
