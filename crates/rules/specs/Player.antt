-- The player: its table, a line for each record, and its whole output (rules P1 to P5).
use Rattle.std.specs.Prelude.{ℕ, zero, suc, ◌+◌, ◌/◌, ◌%◌, List, [], ◌∷◌, ◌++◌, eqb, ltb, get_or, replicate, if◌then◌else◌}
use Prim.Native.Char.{code}
use Prim.Native.String.{String, [] as []ˢ, ◌∷◌ as ◌∷ˢ◌}
use Rattle.rules.specs.Table.{Table, this_version, words_for}
use Rattle.rules.specs.Outcome.{refused}
use Rattle.rules.specs.Machine.{perform}
use Rattle.rules.specs.Session.{Item, item, broken, file_fits, items_of}

-- ---- P1: text
-- P1: the bytes of a text of plain letters
unfoldable pub ascii : String → List ℕ
ascii []ˢ = []
ascii (c ∷ˢ cs) = code c ∷ ascii cs

abbrev pub space : ℕ
space = 32

abbrev pub line_feed : ℕ
line_feed = 10

abbrev pub digit : ℕ → ℕ
digit d = 48 + d

-- P1: a number in decimal, by a number of steps that is at least as large
unfoldable pub digits : ℕ → ℕ → List ℕ
digits zero n = digit n ∷ []
digits (suc steps) n =
    let higher = digits steps (n / 10) in
    if ltb n 10 then digit n ∷ [] else higher ++ (digit (n % 10) ∷ [])

unfoldable pub decimal : ℕ → List ℕ
decimal n = digits n n

-- ---- P2: the words of the answers; there is none of number 0
unfoldable pub word_of : ℕ → List ℕ
word_of n =
    get_or
    ([] ∷ ascii "ready" ∷ ascii "sent" ∷ ascii "accepted" ∷ ascii "dropped" ∷ ascii "handle" ∷ ascii "parsed" ∷ ascii "refused" ∷ [])
    n
    []

-- ---- P3: a line: the record's number, the word, the values, one space between, a line feed after
unfoldable pub spaced : List ℕ → List ℕ
spaced [] = line_feed ∷ []
spaced (v ∷ vs) = space ∷ (decimal v ++ spaced vs)

unfoldable pub line_of : ℕ → List ℕ → List ℕ
line_of place [] = []
line_of place (n ∷ values) = decimal place ++ (space ∷ (word_of n ++ spaced values))

unfoldable pub lines_from : ℕ → List (List ℕ) → List ℕ
lines_from place [] = []
lines_from place (a ∷ more) = line_of place a ++ lines_from (place + 1) more

-- ---- P4: playing
-- P4: the player's own table, of the greatest capacity, all zero
unfoldable pub players_table : Table
players_table = replicate (words_for this_version 512) 0

-- P4: the answer to each record, on the table that those before it left; a malformed one is refused and ends it
unfoldable pub answers_to : List Item → Table → List (List ℕ)
answers_to [] t = []
answers_to (broken ∷ more) t = refused 11 ∷ []
answers_to (item r ∷ more) t =
    let o = perform r t in
    o.answer ∷ answers_to more o.table

unfoldable pub played : List ℕ → List ℕ
played file =
    if file_fits file then lines_from 1 (answers_to (items_of file) players_table) else line_of 0 (refused 11)

-- P4: how many bytes the lines of a file can have. A record has at least 3 bytes and a line at most 31: 31 for every 3 of the at most 65,534
-- bytes before the last line's record, and 31
unfoldable pub most_bytes : ℕ
most_bytes = 677215

-- ---- P5: a text cut into its lines, each with its line feed
unfoldable pub onto_first : ℕ → List (List ℕ) → List (List ℕ)
onto_first c [] = (c ∷ []) ∷ []
onto_first c (l ∷ ls) = (c ∷ l) ∷ ls

unfoldable pub cut_lines : List ℕ → List (List ℕ)
cut_lines [] = []
cut_lines (c ∷ cs) = if eqb c line_feed then (c ∷ []) ∷ cut_lines cs else onto_first c (cut_lines cs)
