-- The session file: its first byte, its records read at a position, and a record written (rules F1 to F6).
use Rattle.std.specs.Prelude.{ℕ, zero, suc, ◌+◌, ◌-◌, ◌*◌, ◌/◌, ◌%◌, Bool, true, false, not, List, [], ◌∷◌, ◌++◌, eqb, leb, length, get_or, take, drop, if◌then◌else◌}
use Rattle.rules.specs.Choice.{◌and◌}
use Rattle.rules.specs.Commands.{list_is_asked}
use Rattle.rules.specs.Machine.{Request, Start, Deliver, Store, Nonce, MakeList, Project, Encrypt, Decrypt, Parse, Record, SetUp, Asks}

-- ---- F1: the file
unfoldable pub file_version : ℕ
file_version = 1

unfoldable pub longest_file : ℕ
longest_file = 65536

unfoldable pub file_fits : List ℕ → Bool
file_fits file = leb 1 (length file) and leb (length file) longest_file and eqb (get_or file 0 0) file_version

-- ---- F2: numbers of two bytes, the high one first
unfoldable pub number : List ℕ → ℕ → ℕ
number file at = 256 * get_or file at 0 + get_or file (at + 1) 0

unfoldable pub two_bytes : ℕ → List ℕ
two_bytes n = n / 256 ∷ n % 256 ∷ []

-- ---- F3: the kinds
-- F3: a body is a kind byte and two bytes for each number
unfoldable pub body_length : ℕ → ℕ
body_length numbers = 1 + 2 * numbers

-- F3: the shortest and the longest body of each kind, from kind 0; nothing for any other kind
unfoldable pub body_lengths : ℕ → List ℕ
body_lengths kind =
    get_or
    ((7 ∷ 7 ∷ []) ∷ (5 ∷ 5 ∷ []) ∷ (7 ∷ 7 ∷ []) ∷ (3 ∷ 3 ∷ []) ∷ (1 ∷ 1 ∷ []) ∷ (3 ∷ 9 ∷ []) ∷ (5 ∷ 5 ∷ []) ∷ (5 ∷ 5 ∷ []) ∷ (5 ∷ 5 ∷ []) ∷ (3 ∷ 3 ∷ []) ∷ [])
    kind
    []

-- F3: a body of l bytes is whole numbers after the kind, and no shorter or longer than the kind's
unfoldable pub is_within : List ℕ → ℕ → Bool
is_within [] l = false
is_within (low ∷ more) l = leb low l and leb l (get_or more 0 0) and eqb (l % 2) 1

-- F3: the record of a kind, with k numbers, x 1 to x k
unfoldable pub record_of : ℕ → ℕ → (ℕ → ℕ) → Record
record_of kind k x =
    get_or
    (SetUp (x 1) (x 2) (x 3)
    ∷ Asks (Start (x 1) (x 2))
    ∷ Asks (Deliver (x 1) (x 2) (x 3))
    ∷ Asks (Store (x 1))
    ∷ Asks Nonce
    ∷ Asks (MakeList k (x 1) (x 2) (x 3) (x 4))
    ∷ Asks (Project (x 1) (x 2))
    ∷ Asks (Encrypt (x 1) (x 2))
    ∷ Asks (Decrypt (x 1) (x 2))
    ∷ [])
    kind
    (Asks (Parse (x 1)))

-- ---- F4: reading what stands at a position
pub data Reading : Type 0 where
  -- a record, and the position after it
  found : Record → ℕ → Reading
  malformed : Reading
  ended : Reading

-- F4: number i of a body that starts at b and has k numbers; 0 for one that it hasn't
unfoldable pub body_number : List ℕ → ℕ → ℕ → ℕ → ℕ
body_number file b k i = if leb i k then number file (b + 2 * i - 1) else 0

-- F4: a body of l bytes that starts at b
unfoldable pub read_body : List ℕ → ℕ → ℕ → Reading
read_body file b l =
    if leb (b + l) (length file) and is_within (body_lengths (get_or file b 0)) l
    then found (record_of (get_or file b 0) (l / 2) (body_number file b (l / 2))) (b + l) else malformed

unfoldable pub read_record : List ℕ → ℕ → Reading
read_record file at =
    if leb (length file) at then ended else
    if leb (at + 2) (length file) then read_body file (at + 2) (number file at) else malformed

-- ---- F5: the records of a file, in order, up to its end or to the first that is malformed
pub data Item : Type 0 where
  item : Record → Item
  broken : Item

-- F5: set-up stands first and only there
unfoldable pub stands_right : Record → ℕ → Bool
stands_right (SetUp n m c) place = eqb place 1
stands_right (Asks r) place = not (eqb place 1)

-- F5: what was read at record number `place`, and the items from the position after it on
unfoldable pub items_by : Reading → ℕ → (ℕ → List Item) → List Item
items_by (found r next) place rest = if stands_right r place then item r ∷ rest next else broken ∷ []
items_by malformed place rest = broken ∷ []
items_by ended place rest = []

-- F5: from record number `place` at a position on; a record has at least 3 bytes, so as many steps as the file has bytes are enough
unfoldable pub items_from : ℕ → List ℕ → ℕ → ℕ → List Item
items_from zero file place at = []
items_from (suc steps) file place at = items_by (read_record file at) place (items_from steps file (place + 1))

unfoldable pub items_of : List ℕ → List Item
items_of file = items_from (length file) file 1 1

-- F5: the requests among them
unfoldable pub requests_in : List Item → List Request
requests_in [] = []
requests_in (broken ∷ more) = requests_in more
requests_in (item (SetUp n m c) ∷ more) = requests_in more
requests_in (item (Asks r) ∷ more) = r ∷ requests_in more

-- ---- F6: writing a record
unfoldable pub kind_of : Record → ℕ
kind_of (SetUp n m c) = 0
kind_of (Asks (Start u v)) = 1
kind_of (Asks (Deliver s r h)) = 2
kind_of (Asks (Store d)) = 3
kind_of (Asks Nonce) = 4
kind_of (Asks (MakeList k a b c d)) = 5
kind_of (Asks (Project h i)) = 6
kind_of (Asks (Encrypt k l)) = 7
kind_of (Asks (Decrypt k c)) = 8
kind_of (Asks (Parse h)) = 9

unfoldable pub values_of : Record → List ℕ
values_of (SetUp n m c) = n ∷ m ∷ c ∷ []
values_of (Asks (Start u v)) = u ∷ v ∷ []
values_of (Asks (Deliver s r h)) = s ∷ r ∷ h ∷ []
values_of (Asks (Store d)) = d ∷ []
values_of (Asks Nonce) = []
values_of (Asks (MakeList k a b c d)) = take k (a ∷ b ∷ c ∷ d ∷ [])
values_of (Asks (Project h i)) = h ∷ i ∷ []
values_of (Asks (Encrypt k l)) = k ∷ l ∷ []
values_of (Asks (Decrypt k c)) = k ∷ c ∷ []
values_of (Asks (Parse h)) = h ∷ []

unfoldable pub bytes_of : List ℕ → List ℕ
bytes_of [] = []
bytes_of (n ∷ ns) = two_bytes n ++ bytes_of ns

unfoldable pub record_bytes : Record → List ℕ
record_bytes r = two_bytes (body_length (length (values_of r))) ++ (kind_of r ∷ bytes_of (values_of r))

-- F6: a list that refusal 4 would name has no record
unfoldable pub has_record : Record → Bool
has_record (SetUp n m c) = true
has_record (Asks (Start u v)) = true
has_record (Asks (Deliver s r h)) = true
has_record (Asks (Store d)) = true
has_record (Asks Nonce) = true
has_record (Asks (MakeList k a b c d)) = list_is_asked k (a ∷ b ∷ c ∷ d ∷ [])
has_record (Asks (Project h i)) = true
has_record (Asks (Encrypt k l)) = true
has_record (Asks (Decrypt k c)) = true
has_record (Asks (Parse h)) = true

-- F6: what the writer gives: the number of bytes written, or a refusal
pub data Written : Type 0 where
  bytes : ℕ → Written
  refusal : ℕ → Written

pub record Writing : Type 0 where
  pub written : Written
  pub output : List ℕ

-- F6: the record's bytes at the start of the output, the others as they were; nothing on a refusal
unfoldable pub write_record : Record → List ℕ → Writing
write_record r out =
    let b = record_bytes r in
    if not (has_record r) then record { written = refusal 11; output = out } else
    if leb (length b) (length out) then record { written = bytes (length b); output = b ++ drop (length b) out } else
    record { written = refusal 12; output = out }
