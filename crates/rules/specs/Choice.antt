-- Tests put together, walks over the numbers 1 to n, and tests of lists. Nothing here is of the machine.
use Rattle.std.specs.Prelude.{ℕ, zero, suc, ◌+◌, Bool, true, false, List, [], ◌∷◌, eqb, if◌then◌else◌}

infixr 35 ◌and◌
infixr 30 ◌or◌
infixr 20 ◌implies◌
-- to the right, so that a proof takes a chain apart by its first part
abbrev pub ◌and◌ : Bool → Bool → Bool
true and b = b
false and b = false

abbrev pub ◌or◌ : Bool → Bool → Bool
true or b = true
false or b = b

abbrev pub ◌implies◌ : Bool → Bool → Bool
true implies b = b
false implies b = true

-- both or neither
abbrev pub agree : Bool → Bool → Bool
agree true b = b
agree false true = false
agree false false = true

-- ---- walks over 1 to n
-- every number passes the test
unfoldable pub all : (ℕ → Bool) → ℕ → Bool
all f zero = true
all f (suc n) = all f n and f (suc n)

-- how many numbers pass the test
unfoldable pub count : (ℕ → Bool) → ℕ → ℕ
count f zero = 0
count f (suc n) = count f n + (if f (suc n) then 1 else 0)

-- the lowest number that passes the test; 0 where none does
unfoldable pub lowest : (ℕ → Bool) → ℕ → ℕ
lowest f zero = 0
lowest f (suc n) =
    let r = lowest f n in
    if eqb r 0 then (if f (suc n) then suc n else 0) else r

-- ---- lists of numbers
-- every number of the list passes the test
unfoldable pub every : (ℕ → Bool) → List ℕ → Bool
every f [] = true
every f (x ∷ xs) = f x and every f xs

-- the sum of a measure over the list
unfoldable pub sum_of : (ℕ → ℕ) → List ℕ → ℕ
sum_of f [] = 0
sum_of f (x ∷ xs) = f x + sum_of f xs

-- the two lists are the same
unfoldable pub same : List ℕ → List ℕ → Bool
same [] [] = true
same [] (y ∷ ys) = false
same (x ∷ xs) [] = false
same (x ∷ xs) (y ∷ ys) = eqb x y and same xs ys

unfoldable pub is_zero : ℕ → Bool
is_zero x = eqb x 0
