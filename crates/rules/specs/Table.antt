-- The table as rows of numbers, and the names of its fields (rules T1 to T4).
-- Only `word`, `put`, `with_row` and `words_for` know how the rows lie; all else is said through them.
use Rattle.std.specs.Prelude.{ℕ, ◌+◌, ◌-◌, ◌*◌, ◌/◌, ◌%◌, ◌^◌, Bool, List, [], ◌∷◌, ◌++◌, eqb, leb, ltb, length, get_or, set, take, drop, if◌then◌else◌}
use Rattle.rules.specs.Choice.{◌and◌, all}

-- T1: what is lent, one run of numbers
abbrev pub Table : Type 0
Table = List ℕ

abbrev pub size : Table → ℕ
size t = length t

-- ---- the form, by one number
-- T1: the version that set-up writes
unfoldable pub this_version : ℕ
this_version = 1

-- T1: the highest participant that a table of this version has room for
unfoldable pub most_of : ℕ → ℕ
most_of version = 8

unfoldable pub most : Table → ℕ
most t = most_of (get_or t 0 0)

-- T1: type, count, four arguments, length; then the handles of knowers 0 to most
abbrev pub row_width : Table → ℕ
row_width t = 8 + most t

-- T1: the numbers of a table of this version: the head's row, and a row for each entry up to its capacity
unfoldable pub words_for : ℕ → ℕ → ℕ
words_for version capacity = (8 + most_of version) + (8 + most_of version) * capacity

-- ---- rows: the head is row 0, entry e is row e
-- T1: word k of row e; 0 past the end of the run
unfoldable pub word : Table → ℕ → ℕ → ℕ
word t e k = get_or t (row_width t * e + k) 0

-- T1: the table with v there; the same table past the end of the run
unfoldable pub put : Table → ℕ → ℕ → ℕ → Table
put t e k v = set t (row_width t * e + k) v

-- T1: the table with the numbers ys for its row e, where the run has all of that row
unfoldable pub with_row : Table → ℕ → List ℕ → Table
with_row t e ys =
    if leb (row_width t * e + row_width t) (size t)
    then take (row_width t * e) t ++ (ys ++ drop (row_width t * e + row_width t) t) else t

-- T1: the largest number that a word holds, and the next number as far as a word holds it
unfoldable pub largest : ℕ
largest = 65535

unfoldable pub raised : ℕ → ℕ
raised n = if ltb n largest then n + 1 else n

-- ---- T2: the head
abbrev pub version : Table → ℕ
version t = word t 0 0

abbrev pub participants : Table → ℕ
participants t = word t 0 1

abbrev pub mask : Table → ℕ
mask t = word t 0 2

abbrev pub capacity : Table → ℕ
capacity t = word t 0 3

abbrev pub used : Table → ℕ
used t = word t 0 4

abbrev pub set_used : Table → ℕ → Table
set_used t u = put t 0 4 u

-- T2: a knower past the form's has next handle 1, and none is written
unfoldable pub next_handle : Table → ℕ → ℕ
next_handle t k = if leb k (most t) then word t 0 (5 + k) else 1

unfoldable pub set_next_handle : Table → ℕ → ℕ → Table
set_next_handle t k h = if leb k (most t) then put t 0 (5 + k) h else t

-- T2: what the two spare words may hold
unfoldable pub spares_fit : Table → Bool
spares_fit t = eqb (word t 0 (6 + most t)) 0 and eqb (word t 0 (7 + most t)) 0

-- ---- T3: an entry
abbrev pub type_at : Table → ℕ → ℕ
type_at t e = word t e 0

abbrev pub count_at : Table → ℕ → ℕ
count_at t e = word t e 1

-- T3: argument i, from 1 to 4
abbrev pub argument : Table → ℕ → ℕ → ℕ
argument t e i = word t e (1 + i)

unfoldable pub arguments : Table → ℕ → List ℕ
arguments t e = argument t e 1 ∷ argument t e 2 ∷ argument t e 3 ∷ argument t e 4 ∷ []

abbrev pub length_at : Table → ℕ → ℕ
length_at t e = word t e 6

-- T3: knower k's handle on entry e, 0 for none; a knower past the form's has none
unfoldable pub handle : Table → ℕ → ℕ → ℕ
handle t k e = if leb k (most t) then word t e (7 + k) else 0

unfoldable pub set_handle : Table → ℕ → ℕ → ℕ → Table
set_handle t k e h = if leb k (most t) then put t e (7 + k) h else t

-- ---- T4: participants and knowers
-- T4: bit p - 1 of a mask stands for participant p
unfoldable pub in_mask : ℕ → ℕ → Bool
in_mask m p = leb 1 p and eqb (m / 2 ^ (p - 1) % 2) 1

unfoldable pub is_participant : Table → ℕ → Bool
is_participant t p = leb 1 p and leb p (participants t) and leb p (most t)

unfoldable pub honest : Table → ℕ → Bool
honest t p = is_participant t p and in_mask (mask t) p

-- T4: knowers are 0, the adversary, and the participants
unfoldable pub every_knower : Table → (ℕ → Bool) → Bool
every_knower t f = f 0 and all f (most t)
