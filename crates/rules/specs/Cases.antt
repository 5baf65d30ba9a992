-- Worked cases of the machine as one table: the starred cases of its paper, and more that shut out rules which those leave standing.
-- Each row is right or not by a test that the checker computes; proofs/Cases.antt computes all and says what a right row means.
use Rattle.std.specs.Prelude.{ℕ, suc, ◌*◌, Bool, true, false, List, [], ◌∷◌, ◌++◌, eqb, get_or, take, replicate}
use Rattle.rules.specs.Choice.{◌and◌, same}
use Rattle.rules.specs.Table.{Table, this_version, words_for, put, used, next_handle}
use Rattle.rules.specs.Handles.{entry_of}
use Rattle.rules.specs.Outcome.{Outcome, ready, sent, accepted, dropped, handed, parsed, refused}
use Rattle.rules.specs.Machine.{Request, Start, Deliver, Store, Nonce, MakeList, Project, Encrypt, Decrypt, Parse, Record, SetUp, Asks, step, set_up, run, table_after}
use Rattle.rules.specs.Session.{Written, bytes, refusal, write_record}
use Rattle.rules.specs.Player.{ascii, played}
use Rattle.rules.specs.Calls.{play_into, perform_into}

-- ---- what a row can say
pub data Case : Type 0 where
  -- set-up with n, mask and capacity, on a run of just its size, then these requests: the answers, the set-up's first; the used entries
  -- after all; and of some knowers (the first number of each list) the entries that their handles from 1 name, which are all they hold
  plays : ℕ → ℕ → ℕ → List Request → List (List ℕ) → ℕ → List (List ℕ) → Case
  -- the same set-up and requests: every word that they leave
  comes_to : ℕ → ℕ → ℕ → List Request → Table → Case
  -- a table with these words changed (row, place, new number): what a request on it answers
  changed : Table → List (List ℕ) → Request → List ℕ → Case
  -- a table of which only so many numbers are left: what a request on it answers
  cut : Table → ℕ → Request → List ℕ → Case
  -- set-up on a run of so many nines: its answer
  sets : ℕ → ℕ → ℕ → ℕ → List ℕ → Case
  -- set-up on a run of so many nines: every word that it leaves
  leaves : ℕ → ℕ → ℕ → ℕ → Table → Case
  -- the player's whole output for a file
  prints : List ℕ → List ℕ → Case
  -- the call that plays a session: file, output before; result, output after
  calls : List ℕ → List ℕ → ℕ → List ℕ → Case
  -- the call that performs one record, on a run of so many nines: bytes, size, output before; result, table and output after
  performs : List ℕ → ℕ → List ℕ → ℕ → Table → List ℕ → Case
  -- the writer: record, output before; what it gives (1 and a number of bytes, or 0 and a refusal), output after
  writes : Record → List ℕ → List ℕ → List ℕ → Case

-- ---- short names for the rows
-- a run of so many nines: set-up has to write every word of its table
unfoldable pub nines : ℕ → Table
nines n = replicate n 9

unfoldable pub fresh : ℕ → ℕ → ℕ → Outcome
fresh n m c = set_up n m c (nines (words_for this_version c))

-- a list of one handle
abbrev pub list_of : ℕ → Request
list_of h = MakeList 1 h 0 0 0

-- four times the same
abbrev pub four_of : ℕ → Request
four_of h = MakeList 4 h h h h

-- an entry that knower 0 alone holds: its seven numbers, and the handle
abbrev pub held0 : List ℕ → ℕ → List ℕ
held0 ns h = ns ++ (h ∷ replicate 8 0)

-- the keys of two participants, none honest
unfoldable pub two_key_rows : List ℕ
two_key_rows =
    held0 (5 ∷ 1 ∷ 1 ∷ 0 ∷ 0 ∷ 0 ∷ 0 ∷ []) 1
    ++ (held0 (6 ∷ 1 ∷ 1 ∷ 0 ∷ 0 ∷ 0 ∷ 32 ∷ []) 2
    ++ (held0 (5 ∷ 1 ∷ 2 ∷ 0 ∷ 0 ∷ 0 ∷ 0 ∷ []) 3 ++ held0 (6 ∷ 1 ∷ 2 ∷ 0 ∷ 0 ∷ 0 ∷ 32 ∷ []) 4))

-- the table that set-up 2 0 16 leaves on a run of nines with three numbers more than it needs
unfoldable pub two_keys : Table
two_keys =
    (1 ∷ 2 ∷ 0 ∷ 16 ∷ 4 ∷ 5 ∷ (replicate 8 1 ++ (0 ∷ 0 ∷ [])))
    ++ (two_key_rows ++ (replicate (16 * 12) 0 ++ (9 ∷ 9 ∷ 9 ∷ [])))

-- a table with an entry of each later type, at 5 to 8: data, nonce, list of the two, ciphertext of it under key 2
unfoldable pub each_type : Table
each_type =
    (1 ∷ 2 ∷ 0 ∷ 16 ∷ 8 ∷ 9 ∷ (replicate 8 1 ++ (0 ∷ 0 ∷ [])))
    ++ (two_key_rows
    ++ (held0 (1 ∷ 1 ∷ 7 ∷ 0 ∷ 0 ∷ 0 ∷ 2 ∷ []) 5
    ++ (held0 (2 ∷ 2 ∷ 0 ∷ 0 ∷ 0 ∷ 0 ∷ 8 ∷ []) 6
    ++ (held0 (3 ∷ 2 ∷ 5 ∷ 6 ∷ 0 ∷ 0 ∷ 12 ∷ []) 7
    ++ (held0 (4 ∷ 2 ∷ 2 ∷ 7 ∷ 0 ∷ 0 ∷ 28 ∷ []) 8 ++ replicate (16 * 8) 0)))))

-- a table whose lists hold four of the one before, from a nonce at 5, and whose last, at 10, holds one of 2218
unfoldable pub long_terms : Table
long_terms =
    (1 ∷ 2 ∷ 0 ∷ 16 ∷ 10 ∷ 11 ∷ (replicate 8 1 ++ (0 ∷ 0 ∷ [])))
    ++ (two_key_rows
    ++ (held0 (2 ∷ 2 ∷ 0 ∷ 0 ∷ 0 ∷ 0 ∷ 8 ∷ []) 5
    ++ (held0 (3 ∷ 4 ∷ 5 ∷ 5 ∷ 5 ∷ 5 ∷ 34 ∷ []) 6
    ++ (held0 (3 ∷ 4 ∷ 6 ∷ 6 ∷ 6 ∷ 6 ∷ 138 ∷ []) 7
    ++ (held0 (3 ∷ 4 ∷ 7 ∷ 7 ∷ 7 ∷ 7 ∷ 554 ∷ []) 8
    ++ (held0 (3 ∷ 4 ∷ 8 ∷ 8 ∷ 8 ∷ 8 ∷ 2218 ∷ []) 9
    ++ (held0 (3 ∷ 1 ∷ 9 ∷ 0 ∷ 0 ∷ 0 ∷ 2220 ∷ []) 10 ++ replicate (16 * 6) 0)))))))

-- records as bytes
abbrev pub set_up_bytes : List ℕ
set_up_bytes = 0 ∷ 7 ∷ 0 ∷ 0 ∷ 2 ∷ 0 ∷ 0 ∷ 0 ∷ 16 ∷ []

abbrev pub parse_bytes : ℕ → List ℕ
parse_bytes h = 0 ∷ 3 ∷ 9 ∷ 0 ∷ h ∷ []

-- the honest run of case 11
unfoldable pub honest_run : List ℕ
honest_run =
    1
    ∷ 0 ∷ 7 ∷ 0 ∷ 0 ∷ 3 ∷ 0 ∷ 3 ∷ 0 ∷ 64
    ∷ 0 ∷ 5 ∷ 1 ∷ 0 ∷ 1 ∷ 0 ∷ 2
    ∷ 0 ∷ 7 ∷ 2 ∷ 0 ∷ 1 ∷ 0 ∷ 2 ∷ 0 ∷ 5
    ∷ 0 ∷ 7 ∷ 2 ∷ 0 ∷ 2 ∷ 0 ∷ 1 ∷ 0 ∷ 6
    ∷ 0 ∷ 7 ∷ 2 ∷ 0 ∷ 1 ∷ 0 ∷ 2 ∷ 0 ∷ 7
    ∷ []

-- ---- the starred cases, 1 to 10, and case 11
unfoldable pub starred : List Case
starred =
    -- 1: the holdings after set-up
    plays 3 3 64 [] (ready 6 ∷ []) 6 ((0 ∷ 2 ∷ 4 ∷ 5 ∷ 6 ∷ []) ∷ (1 ∷ 1 ∷ 2 ∷ 4 ∷ 6 ∷ []) ∷ [])
    -- 2: a start
    ∷ plays 3 3 64 (Start 1 2 ∷ Parse 5 ∷ []) (ready 6 ∷ sent 1 2 5 ∷ parsed 3 1 30 ∷ []) 11 ((0 ∷ 2 ∷ 4 ∷ 5 ∷ 6 ∷ 11 ∷ []) ∷ [])
    -- 3: who may start
    ∷ plays 3 3 64 (Start 1 1 ∷ Start 3 1 ∷ Start 2 3 ∷ []) (ready 6 ∷ refused 3 ∷ refused 3 ∷ sent 2 3 5 ∷ []) 11 []
    -- 4: room for a start
    ∷ plays 8 1 20 (Start 1 2 ∷ []) (ready 16 ∷ refused 10 ∷ []) 16 []
    ∷ plays 8 1 21 (Start 1 2 ∷ []) (ready 16 ∷ sent 1 2 16 ∷ []) 21 []
    -- 5: the wrong key
    ∷ plays 3 3 64 (Start 1 2 ∷ Project 5 1 ∷ Decrypt 3 6 ∷ []) (ready 6 ∷ sent 1 2 5 ∷ handed 6 ∷ refused 8 ∷ []) 11 []
    -- 6: a datum is stored once
    ∷ plays 3 3 64 (Store 7 ∷ Store 7 ∷ []) (ready 6 ∷ handed 5 ∷ handed 5 ∷ []) 7 []
    -- 7: places
    ∷ plays 3 3 64 (Start 1 2 ∷ Project 5 2 ∷ Project 5 0 ∷ Project 9 0 ∷ [])
    (ready 6 ∷ sent 1 2 5 ∷ refused 7 ∷ refused 4 ∷ refused 4 ∷ []) 11 []
    -- 8: Lowe's exchange
    ∷ plays 3 3 64
    (Start 1 3 ∷ Project 5 1 ∷ Decrypt 3 6 ∷ Encrypt 2 7 ∷ list_of 8 ∷ Deliver 1 2 9 ∷ Deliver 3 1 10 ∷ Deliver 2 1 10 ∷ [])
    (ready 6 ∷ sent 1 3 5 ∷ handed 6 ∷ handed 7 ∷ handed 8 ∷ handed 9 ∷ sent 2 1 10 ∷ dropped ∷ dropped ∷ []) 18 []
    -- 9: the last participant
    ∷ plays 8 255 64 (Start 1 8 ∷ Deliver 1 8 9 ∷ []) (ready 16 ∷ sent 1 8 9 ∷ sent 8 1 10 ∷ []) 26 []
    -- 10: a version that isn't known
    ∷ prints (2 ∷ []) (ascii "0 refused 11\n")
    -- 11: the honest run, as printed and as played
    ∷ prints honest_run (ascii "1 ready 6\n2 sent 1 2 5\n3 sent 2 1 6\n4 sent 1 2 7\n5 accepted 2 1\n")
    ∷ plays 3 3 64 (Start 1 2 ∷ Deliver 1 2 5 ∷ Deliver 2 1 6 ∷ Deliver 1 2 7 ∷ [])
    (ready 6 ∷ sent 1 2 5 ∷ sent 2 1 6 ∷ sent 1 2 7 ∷ accepted 2 1 ∷ []) 19
    ((0 ∷ 2 ∷ 4 ∷ 5 ∷ 6 ∷ 11 ∷ 16 ∷ 19 ∷ [])
    ∷ (1 ∷ 1 ∷ 2 ∷ 4 ∷ 6 ∷ 7 ∷ 8 ∷ 9 ∷ 10 ∷ 11 ∷ 16 ∷ 15 ∷ 14 ∷ 12 ∷ 13 ∷ 17 ∷ 18 ∷ 19 ∷ [])
    ∷ (2 ∷ 2 ∷ 3 ∷ 4 ∷ 6 ∷ 11 ∷ 10 ∷ 9 ∷ 7 ∷ 8 ∷ 12 ∷ 13 ∷ 14 ∷ 15 ∷ 16 ∷ 19 ∷ 18 ∷ 17 ∷ [])
    ∷ (3 ∷ []) ∷ [])
    ∷ []

-- ---- the commands
-- where 1 is honest and 2 isn't, knower 0's handles after set-up are 1 for 1's public key, 2 and 3 for 2's secret and public key
unfoldable pub more : List Case
more =
    -- a datum that is found is granted too, and so is the outer list; both in their order
    plays 3 3 16 (Store 1 ∷ Start 1 2 ∷ []) (ready 6 ∷ handed 5 ∷ sent 1 2 6 ∷ []) 11
    ((1 ∷ 1 ∷ 2 ∷ 4 ∷ 6 ∷ 8 ∷ 7 ∷ 9 ∷ 10 ∷ 11 ∷ []) ∷ [])
    -- a search goes over all used entries, whoever holds them
    ∷ plays 3 3 16 (Start 1 2 ∷ Store 1 ∷ []) (ready 6 ∷ sent 1 2 5 ∷ handed 6 ∷ []) 11 []
    -- a second message of four elements: the fourth is ignored and not granted
    ∷ plays 2 1 18
    (Start 1 2 ∷ Project 4 1 ∷ Decrypt 2 5 ∷ Project 6 1 ∷ Store 2 ∷ Store 9 ∷ Nonce ∷ MakeList 4 7 9 8 10 ∷ Encrypt 1 11 ∷ list_of 12 ∷ Deliver 2 1 13 ∷ [])
    (ready 4 ∷ sent 1 2 4 ∷ handed 5 ∷ handed 6 ∷ handed 7 ∷ handed 8 ∷ handed 9 ∷ handed 10 ∷ handed 11 ∷ handed 12 ∷ handed 13 ∷ sent 1 2 14 ∷ []) 18
    ((1 ∷ 1 ∷ 2 ∷ 4 ∷ 5 ∷ 6 ∷ 7 ∷ 8 ∷ 9 ∷ 15 ∷ 14 ∷ 13 ∷ 11 ∷ 10 ∷ 16 ∷ 17 ∷ 18 ∷ []) ∷ [])
    -- a full table: 9 comes before 10, and what is found needs no room
    ∷ plays 2 1 16
    (Start 1 2 ∷ Start 1 2 ∷ four_of 4 ∷ four_of 6 ∷ four_of 7 ∷ four_of 8 ∷ list_of 4 ∷ four_of 6 ∷ Nonce ∷ Store 1 ∷ Start 1 2 ∷ Deliver 2 1 4 ∷ [])
    (ready 4 ∷ sent 1 2 4 ∷ sent 1 2 5 ∷ handed 6 ∷ handed 7 ∷ handed 8 ∷ refused 9 ∷ refused 10 ∷ handed 7 ∷ refused 10 ∷ handed 9 ∷ refused 10 ∷ dropped ∷ []) 16 []
    -- a list is found by all of its elements, in their order
    ∷ plays 2 0 16 (Store 1 ∷ Store 2 ∷ list_of 5 ∷ MakeList 2 5 6 0 0 ∷ MakeList 2 6 5 0 0 ∷ list_of 6 ∷ list_of 5 ∷ MakeList 2 5 6 0 0 ∷ [])
    (ready 4 ∷ handed 5 ∷ handed 6 ∷ handed 7 ∷ handed 8 ∷ handed 9 ∷ handed 10 ∷ handed 7 ∷ handed 8 ∷ []) 10 []
    -- what parse shows of each type; handle 0 and a handle not yet given name nothing
    ∷ plays 2 1 16
    (Store 77 ∷ Nonce ∷ MakeList 2 4 5 0 0 ∷ Encrypt 3 6 ∷ Parse 4 ∷ Parse 5 ∷ Parse 6 ∷ Parse 7 ∷ Parse 2 ∷ Parse 1 ∷ Parse 0 ∷ Parse 8 ∷ [])
    (ready 4 ∷ handed 4 ∷ handed 5 ∷ handed 6 ∷ handed 7 ∷ parsed 1 77 2 ∷ parsed 2 0 8 ∷ parsed 3 2 12 ∷ parsed 4 3 28 ∷ parsed 5 2 0
    ∷ parsed 6 1 32 ∷ refused 5 ∷ refused 5 ∷ []) 8 []
    -- the order of the refusals, the types of keys and lists, and a key that fits
    ∷ plays 2 1 16
    (Store 7 ∷ list_of 4 ∷ Encrypt 4 9 ∷ Encrypt 2 5 ∷ Encrypt 1 4 ∷ Decrypt 1 5 ∷ Decrypt 2 5 ∷ Decrypt 9 4 ∷ list_of 2 ∷ MakeList 2 2 9 0 0
    ∷ MakeList 2 4 0 0 0 ∷ MakeList 0 0 0 0 0 ∷ MakeList 5 4 4 4 4 ∷ MakeList 1 4 4 0 0 ∷ MakeList 1 9 0 0 1 ∷ Project 4 1 ∷ Project 9 1
    ∷ Project 5 5 ∷ Project 5 2 ∷ Project 5 1 ∷ Encrypt 3 5 ∷ Decrypt 2 6 ∷ [])
    (ready 4 ∷ handed 4 ∷ handed 5 ∷ refused 5 ∷ refused 6 ∷ refused 6 ∷ refused 6 ∷ refused 6 ∷ refused 5 ∷ refused 6 ∷ refused 5
    ∷ refused 5 ∷ refused 4 ∷ refused 4 ∷ refused 4 ∷ refused 4 ∷ refused 6 ∷ refused 5 ∷ refused 4 ∷ refused 7 ∷ handed 4 ∷ handed 6 ∷ handed 5 ∷ []) 7 []
    -- the order of deliver's refusals; what isn't for r, isn't sealed, or names another sender is dropped
    ∷ plays 3 3 16
    (Start 1 2 ∷ Deliver 1 3 5 ∷ Deliver 2 2 5 ∷ Deliver 0 2 5 ∷ Deliver 4 2 9 ∷ Deliver 1 2 9 ∷ Deliver 1 2 1 ∷ Deliver 2 1 5 ∷ Store 1 ∷ list_of 6
    ∷ Deliver 1 2 7 ∷ Deliver 3 2 5 ∷ [])
    (ready 6 ∷ sent 1 2 5 ∷ refused 3 ∷ refused 3 ∷ refused 3 ∷ refused 3 ∷ refused 5 ∷ refused 6 ∷ dropped ∷ handed 6 ∷ handed 7 ∷ dropped ∷ dropped ∷ []) 12 []
    -- what a first message has repeated may be of any type; a third message may come again
    ∷ plays 2 1 16
    (Store 2 ∷ MakeList 2 3 4 0 0 ∷ Encrypt 1 5 ∷ list_of 6 ∷ Deliver 2 1 7 ∷ Project 8 1 ∷ Decrypt 2 9 ∷ Project 10 2 ∷ list_of 11 ∷ Encrypt 1 12
    ∷ list_of 13 ∷ Deliver 2 1 14 ∷ Deliver 2 1 14 ∷ Parse 10 ∷ [])
    (ready 4 ∷ handed 4 ∷ handed 5 ∷ handed 6 ∷ handed 7 ∷ sent 1 2 8 ∷ handed 9 ∷ handed 10 ∷ handed 11 ∷ handed 12 ∷ handed 13 ∷ handed 14
    ∷ accepted 1 2 ∷ accepted 1 2 ∷ parsed 3 3 44 ∷ []) 16 []
    ∷ []

-- ---- set-up: each end of each range, the run's size, every word
unfoldable pub set_ups : List Case
set_ups =
    sets 272 1 0 16 (refused 2) ∷ sets 272 2 0 16 (ready 4) ∷ sets 272 8 0 16 (ready 16) ∷ sets 272 9 0 16 (refused 2)
    ∷ sets 272 2 3 16 (ready 4) ∷ sets 272 2 4 16 (refused 2) ∷ sets 272 8 255 16 (ready 16) ∷ sets 272 8 256 16 (refused 2)
    ∷ sets 272 2 0 15 (refused 2) ∷ sets 8208 2 0 512 (ready 4) ∷ sets 9000 2 0 513 (refused 2)
    ∷ sets 271 2 0 16 (refused 2) ∷ sets 273 2 0 16 (ready 4) ∷ sets 0 2 0 16 (refused 2) ∷ sets 272 0 0 0 (refused 2)
    ∷ leaves 275 2 0 16 two_keys
    ∷ leaves 5 2 0 16 (nines 5)
    ∷ []

-- ---- well-formedness: a table changed in a word, and what a request on it answers
unfoldable pub spoilt : ℕ → ℕ → ℕ → Case
spoilt e k v = changed each_type ((e ∷ k ∷ v ∷ []) ∷ []) (Parse 5) (refused 1)

unfoldable pub harmless : ℕ → ℕ → ℕ → Case
harmless e k v = changed each_type ((e ∷ k ∷ v ∷ []) ∷ []) (Parse 5) (parsed 1 7 2)

unfoldable pub spoils : List Case
spoils =
    comes_to 2 0 16 (Store 7 ∷ Nonce ∷ MakeList 2 5 6 0 0 ∷ Encrypt 2 7 ∷ []) each_type
    -- W1
    ∷ cut each_type 272 (Parse 5) (parsed 1 7 2) ∷ cut each_type 271 (Parse 5) (refused 1) ∷ cut each_type 15 (Parse 5) (refused 1) ∷ cut each_type 0 (Parse 5) (refused 1)
    -- W2
    ∷ spoilt 0 0 0 ∷ spoilt 0 0 2 ∷ spoilt 0 1 1 ∷ spoilt 0 1 3 ∷ spoilt 0 2 4 ∷ spoilt 0 3 15 ∷ spoilt 0 3 17 ∷ spoilt 0 14 1 ∷ spoilt 0 15 1
    -- W3
    ∷ spoilt 0 4 3 ∷ spoilt 0 4 17
    -- W4
    ∷ spoilt 1 0 6 ∷ spoilt 1 2 2 ∷ spoilt 2 0 5 ∷ spoilt 4 2 1 ∷ spoilt 1 7 0 ∷ spoilt 2 8 1 ∷ spoilt 0 2 1
    -- W5, W6
    ∷ spoilt 5 0 0 ∷ spoilt 5 0 5 ∷ spoilt 5 0 6 ∷ spoilt 5 0 7 ∷ spoilt 5 1 2 ∷ spoilt 6 1 1 ∷ spoilt 8 1 3 ∷ spoilt 7 1 0 ∷ spoilt 7 1 5 ∷ spoilt 1 1 2
    ∷ changed long_terms ((6 ∷ 1 ∷ 5 ∷ []) ∷ []) (Parse 5) (refused 1)
    ∷ changed each_type ((7 ∷ 1 ∷ 0 ∷ []) ∷ (7 ∷ 2 ∷ 0 ∷ []) ∷ (7 ∷ 3 ∷ 0 ∷ []) ∷ (7 ∷ 6 ∷ 2 ∷ []) ∷ (8 ∷ 6 ∷ 18 ∷ []) ∷ []) (Parse 5) (refused 1)
    -- W7
    ∷ spoilt 5 3 1 ∷ spoilt 6 5 1 ∷ spoilt 7 4 1 ∷ spoilt 8 4 5 ∷ spoilt 2 3 1
    -- W8
    ∷ harmless 6 2 2 ∷ spoilt 6 2 3 ∷ harmless 6 3 2 ∷ spoilt 6 3 3
    -- W9
    ∷ spoilt 7 2 0 ∷ spoilt 7 2 7 ∷ spoilt 7 2 1 ∷ spoilt 8 2 3 ∷ spoilt 8 2 0 ∷ spoilt 8 2 6 ∷ harmless 8 2 4 ∷ spoilt 8 3 6 ∷ spoilt 8 3 8
    -- W10
    ∷ spoilt 1 6 1 ∷ spoilt 2 6 31 ∷ spoilt 5 6 3 ∷ spoilt 6 6 7 ∷ spoilt 7 6 11 ∷ spoilt 8 6 27
    ∷ changed long_terms [] (Parse 10) (parsed 3 1 2220)
    ∷ changed long_terms ((10 ∷ 1 ∷ 2 ∷ []) ∷ (10 ∷ 3 ∷ 9 ∷ []) ∷ (10 ∷ 6 ∷ 4438 ∷ []) ∷ []) (Parse 10) (refused 1)
    -- W11
    ∷ spoilt 0 5 8 ∷ spoilt 0 5 10 ∷ spoilt 0 6 2 ∷ spoilt 0 13 0 ∷ spoilt 5 7 0 ∷ spoilt 5 7 9 ∷ spoilt 5 8 1
    ∷ changed each_type ((5 ∷ 8 ∷ 1 ∷ []) ∷ (0 ∷ 6 ∷ 2 ∷ []) ∷ []) (Parse 5) (refused 1)
    -- entries past the used ones aren't examined, and are written whole when their turn comes
    ∷ harmless 9 0 9 ∷ harmless 16 15 65535
    ∷ changed each_type ((9 ∷ 4 ∷ 9 ∷ []) ∷ (9 ∷ 8 ∷ 9 ∷ []) ∷ (9 ∷ 15 ∷ 9 ∷ []) ∷ (0 ∷ 4 ∷ 8 ∷ []) ∷ []) Nonce (handed 9)
    -- a handle that stands twice names the lowest entry
    ∷ changed each_type ((4 ∷ 7 ∷ 2 ∷ []) ∷ []) (Parse 2) (parsed 6 1 32)
    ∷ changed each_type ((4 ∷ 7 ∷ 2 ∷ []) ∷ []) (Parse 4) (refused 5)
    ∷ []

-- ---- the session file, the player and the calls
unfoldable pub sessions : List Case
sessions =
    prints [] (ascii "0 refused 11\n")
    ∷ prints (0 ∷ []) (ascii "0 refused 11\n")
    ∷ prints (1 ∷ []) []
    -- goes on after a refusal
    ∷ prints (1 ∷ set_up_bytes ++ (parse_bytes 9 ++ parse_bytes 2)) (ascii "1 ready 4\n2 refused 5\n3 parsed 6 1 32\n")
    -- a refused set-up is not forgotten, and a second one is malformed
    ∷ prints (1 ∷ 0 ∷ 7 ∷ 0 ∷ 0 ∷ 1 ∷ 0 ∷ 0 ∷ 0 ∷ 16 ∷ (parse_bytes 1 ++ (set_up_bytes ++ parse_bytes 1))) (ascii "1 refused 2\n2 refused 1\n3 refused 11\n")
    -- stops after 11: another command first, an unknown kind, wrong lengths, a cut record, an empty body
    ∷ prints (1 ∷ (parse_bytes 1 ++ set_up_bytes)) (ascii "1 refused 11\n")
    ∷ prints (1 ∷ set_up_bytes ++ (0 ∷ 3 ∷ 10 ∷ 0 ∷ 1 ∷ parse_bytes 1)) (ascii "1 ready 4\n2 refused 11\n")
    ∷ prints (1 ∷ set_up_bytes ++ (0 ∷ 5 ∷ 9 ∷ 0 ∷ 1 ∷ 0 ∷ 1 ∷ parse_bytes 1)) (ascii "1 ready 4\n2 refused 11\n")
    ∷ prints (1 ∷ set_up_bytes ++ (0 ∷ 4 ∷ 9 ∷ 0 ∷ 1 ∷ 0 ∷ parse_bytes 1)) (ascii "1 ready 4\n2 refused 11\n")
    ∷ prints (1 ∷ set_up_bytes ++ (1 ∷ 3 ∷ 9 ∷ 0 ∷ 1 ∷ parse_bytes 1)) (ascii "1 ready 4\n2 refused 11\n")
    ∷ prints (1 ∷ set_up_bytes ++ (0 ∷ 11 ∷ 5 ∷ 0 ∷ 1 ∷ 0 ∷ 1 ∷ 0 ∷ 1 ∷ 0 ∷ 1 ∷ 0 ∷ 1 ∷ [])) (ascii "1 ready 4\n2 refused 11\n")
    ∷ prints (1 ∷ set_up_bytes ++ (0 ∷ 3 ∷ 9 ∷ 0 ∷ [])) (ascii "1 ready 4\n2 refused 11\n")
    ∷ prints (1 ∷ set_up_bytes ++ (0 ∷ [])) (ascii "1 ready 4\n2 refused 11\n")
    ∷ prints (1 ∷ set_up_bytes ++ (0 ∷ 0 ∷ [])) (ascii "1 ready 4\n2 refused 11\n")
    -- each kind, and numbers of both bytes
    ∷ prints
    (1 ∷ 0 ∷ 7 ∷ 0 ∷ 0 ∷ 2 ∷ 0 ∷ 1 ∷ 0 ∷ 20
    ∷ 0 ∷ 5 ∷ 1 ∷ 0 ∷ 1 ∷ 0 ∷ 2
    ∷ 0 ∷ 7 ∷ 2 ∷ 0 ∷ 2 ∷ 0 ∷ 1 ∷ 0 ∷ 4
    ∷ 0 ∷ 3 ∷ 3 ∷ 1 ∷ 0
    ∷ 0 ∷ 1 ∷ 4
    ∷ 0 ∷ 5 ∷ 5 ∷ 0 ∷ 5 ∷ 0 ∷ 6
    ∷ 0 ∷ 5 ∷ 6 ∷ 0 ∷ 7 ∷ 0 ∷ 2
    ∷ 0 ∷ 5 ∷ 7 ∷ 0 ∷ 3 ∷ 0 ∷ 7
    ∷ 0 ∷ 5 ∷ 8 ∷ 0 ∷ 2 ∷ 0 ∷ 8
    ∷ 0 ∷ 3 ∷ 9 ∷ 0 ∷ 5
    ∷ [])
    (ascii "1 ready 4\n2 sent 1 2 4\n3 dropped\n4 handle 5\n5 handle 6\n6 handle 7\n7 handle 6\n8 handle 8\n9 handle 7\n10 parsed 1 256 2\n")
    -- the call: lines that fit just so, with a byte to spare, and one byte short
    ∷ calls (2 ∷ []) (replicate 13 9) 13 (ascii "0 refused 11\n")
    ∷ calls (2 ∷ []) (replicate 14 9) 13 (ascii "0 refused 11\n" ++ (9 ∷ []))
    ∷ calls (2 ∷ []) (replicate 12 9) 4294967295 (replicate 12 0)
    ∷ calls (1 ∷ []) [] 0 []
    -- the call for one record
    ∷ performs set_up_bytes 275 (9 ∷ 9 ∷ 9 ∷ 9 ∷ 9 ∷ []) 0 two_keys (1 ∷ 4 ∷ 0 ∷ 0 ∷ 9 ∷ [])
    ∷ performs (parse_bytes 1) 16 (9 ∷ 9 ∷ 9 ∷ 9 ∷ []) 0 (nines 16) (7 ∷ 1 ∷ 0 ∷ 0 ∷ [])
    ∷ performs set_up_bytes 275 (9 ∷ 9 ∷ 9 ∷ []) 12 (nines 275) (9 ∷ 9 ∷ 9 ∷ [])
    ∷ performs (set_up_bytes ++ (0 ∷ [])) 275 (9 ∷ []) 11 (nines 275) (9 ∷ [])
    ∷ performs [] 275 (9 ∷ 9 ∷ 9 ∷ 9 ∷ []) 11 (nines 275) (9 ∷ 9 ∷ 9 ∷ 9 ∷ [])
    ∷ performs (0 ∷ 3 ∷ 9 ∷ 0 ∷ []) 16 (9 ∷ 9 ∷ 9 ∷ 9 ∷ []) 11 (nines 16) (9 ∷ 9 ∷ 9 ∷ 9 ∷ [])
    -- the writer
    ∷ writes (SetUp 2 0 16) (replicate 10 9) (1 ∷ 9 ∷ []) (set_up_bytes ++ (9 ∷ []))
    ∷ writes (Asks (MakeList 2 258 3 0 0)) (replicate 7 9) (1 ∷ 7 ∷ []) (0 ∷ 5 ∷ 5 ∷ 1 ∷ 2 ∷ 0 ∷ 3 ∷ [])
    ∷ writes (Asks (MakeList 2 258 3 0 0)) (replicate 6 9) (0 ∷ 12 ∷ []) (replicate 6 9)
    ∷ writes (Asks (MakeList 2 1 3 1 0)) [] (0 ∷ 11 ∷ []) []
    ∷ writes (Asks (MakeList 0 0 0 0 0)) [] (0 ∷ 11 ∷ []) []
    ∷ writes (Asks (MakeList 5 1 1 1 1)) [] (0 ∷ 11 ∷ []) []
    ∷ []

unfoldable pub cases : List Case
cases = starred ++ (more ++ (set_ups ++ (spoils ++ sessions)))

-- ---- the test of a row
unfoldable pub answers : List Outcome → List (List ℕ)
answers [] = []
answers (o ∷ os) = o.answer ∷ answers os

unfoldable pub same_answers : List (List ℕ) → List (List ℕ) → Bool
same_answers [] [] = true
same_answers [] (b ∷ bs) = false
same_answers (a ∷ more) [] = false
same_answers (a ∷ more) (b ∷ bs) = same a b and same_answers more bs

-- handles h, h + 1, .. name these entries to knower k, and the one after them is its next
unfoldable pub names_from : Table → ℕ → ℕ → List ℕ → Bool
names_from t k h [] = eqb (next_handle t k) h
names_from t k h (e ∷ es) = eqb (entry_of t k h) e and names_from t k (suc h) es

unfoldable pub holdings : Table → List (List ℕ) → Bool
holdings t [] = true
holdings t ([] ∷ more) = holdings t more
holdings t ((k ∷ es) ∷ more) = names_from t k 1 es and holdings t more

unfoldable pub changed_by : Table → List (List ℕ) → Table
changed_by t [] = t
changed_by t (c ∷ cs) = changed_by (put t (get_or c 0 0) (get_or c 1 0) (get_or c 2 0)) cs

unfoldable pub written_numbers : Written → List ℕ
written_numbers (bytes n) = 1 ∷ n ∷ []
written_numbers (refusal n) = 0 ∷ n ∷ []

unfoldable pub is_right : Case → Bool
is_right (plays n m c rs expected u hs) =
    let o = fresh n m c in
    let os = run rs o.table in
    let t = table_after o.table os in
    same_answers (answers (o ∷ os)) expected and eqb (used t) u and holdings t hs
is_right (comes_to n m c rs expected) =
    let o = fresh n m c in
    same (table_after o.table (run rs o.table)) expected
is_right (changed t cs r expected) = same (step r (changed_by t cs)).answer expected
is_right (cut t size r expected) = same (step r (take size t)).answer expected
is_right (sets size n m c expected) = same (set_up n m c (nines size)).answer expected
is_right (leaves size n m c expected) = same (set_up n m c (nines size)).table expected
is_right (prints file text) = same (played file) text
is_right (calls file out result after) =
    let p = play_into file out in
    eqb p.result result and same p.output after
is_right (performs b size out result t after) =
    let p = perform_into b (nines size) out in
    eqb p.result result and same p.table t and same p.output after
is_right (writes r out w after) =
    let p = write_record r out in
    same (written_numbers p.written) w and same p.output after

unfoldable pub all_right : List Case → Bool
all_right [] = true
all_right (c ∷ cs) = is_right c and all_right cs
