-- What an entry is: the six types, their arguments, their lengths, making a new entry and finding an old one (rules T5 to T10).
use Rattle.std.specs.Prelude.{ℕ, ◌+◌, ◌-◌, ◌*◌, Bool, List, [], ◌∷◌, ◌++◌, eqb, length, take, replicate, if◌then◌else◌}
use Rattle.rules.specs.Choice.{◌and◌, sum_of, same, lowest}
use Rattle.rules.specs.Table.{Table, most, with_row, raised, used, set_used, type_at, count_at, argument, arguments, length_at}

-- T5: a term, its arguments being entries where they are not numbers
pub data Term : Type 0 where
  datum : ℕ → Term
  nonce : ℕ → ℕ → Term
  list : List ℕ → Term
  ciphertext : ℕ → ℕ → Term
  secret_key : ℕ → Term
  public_key : ℕ → Term
  -- an entry whose type is none of these six
  blank : Term

-- ---- T5: the numbers of the types
abbrev pub data_type : ℕ
data_type = 1

abbrev pub nonce_type : ℕ
nonce_type = 2

abbrev pub list_type : ℕ
list_type = 3

abbrev pub ciphertext_type : ℕ
ciphertext_type = 4

abbrev pub secret_key_type : ℕ
secret_key_type = 5

abbrev pub public_key_type : ℕ
public_key_type = 6

unfoldable pub type_of : Term → ℕ
type_of (datum v) = data_type
type_of (nonce o p) = nonce_type
type_of (list xs) = list_type
type_of (ciphertext k l) = ciphertext_type
type_of (secret_key p) = secret_key_type
type_of (public_key p) = public_key_type
type_of blank = 0

abbrev pub is_datum : Table → ℕ → Bool
is_datum t e = eqb (type_at t e) data_type

abbrev pub is_nonce : Table → ℕ → Bool
is_nonce t e = eqb (type_at t e) nonce_type

abbrev pub is_list : Table → ℕ → Bool
is_list t e = eqb (type_at t e) list_type

abbrev pub is_ciphertext : Table → ℕ → Bool
is_ciphertext t e = eqb (type_at t e) ciphertext_type

abbrev pub is_secret_key : Table → ℕ → Bool
is_secret_key t e = eqb (type_at t e) secret_key_type

abbrev pub is_public_key : Table → ℕ → Bool
is_public_key t e = eqb (type_at t e) public_key_type

-- ---- T6: counts and arguments
-- T6: the arguments that count, in order
unfoldable pub arguments_of : Term → List ℕ
arguments_of (datum v) = v ∷ []
arguments_of (nonce o p) = o ∷ p ∷ []
arguments_of (list xs) = xs
arguments_of (ciphertext k l) = k ∷ l ∷ []
arguments_of (secret_key p) = p ∷ []
arguments_of (public_key p) = p ∷ []
arguments_of blank = []

-- T6: the elements of a list entry
unfoldable pub elements : Table → ℕ → List ℕ
elements t e = take (count_at t e) (arguments t e)

-- T6: the entry read as a term, by its type
unfoldable pub term_at : Table → ℕ → Term
term_at t e =
    if is_datum t e then datum (argument t e 1) else
    if is_nonce t e then nonce (argument t e 1) (argument t e 2) else
    if is_list t e then list (elements t e) else
    if is_ciphertext t e then ciphertext (argument t e 1) (argument t e 2) else
    if is_secret_key t e then secret_key (argument t e 1) else
    if is_public_key t e then public_key (argument t e 1) else blank

-- ---- T7: lengths
unfoldable pub longest : ℕ
longest = 4095

unfoldable pub datum_length : ℕ
datum_length = 2

unfoldable pub nonce_length : ℕ
nonce_length = 8

-- T7: of a list, by the sum of its elements' lengths
unfoldable pub list_length : ℕ → ℕ
list_length sum = 2 + sum

-- T7: of a ciphertext, by its list's length
unfoldable pub ciphertext_length : ℕ → ℕ
ciphertext_length l = l + 16

unfoldable pub secret_key_length : ℕ
secret_key_length = 0

unfoldable pub public_key_length : ℕ
public_key_length = 32

-- T7: of a term whose parts are in the table
unfoldable pub length_of : Table → Term → ℕ
length_of t (datum v) = datum_length
length_of t (nonce o p) = nonce_length
length_of t (list xs) = list_length (sum_of (length_at t) xs)
length_of t (ciphertext k l) = ciphertext_length (length_at t l)
length_of t (secret_key p) = secret_key_length
length_of t (public_key p) = public_key_length
length_of t blank = 0

-- ---- T8: the entries of participant p's keys
unfoldable pub secret_key_of : ℕ → ℕ
secret_key_of p = 2 * p - 1

unfoldable pub public_key_of : ℕ → ℕ
public_key_of p = 2 * p

-- ---- T9: a new entry
-- T9: its number: the one after the used ones
unfoldable pub new_entry : Table → ℕ
new_entry t = raised (used t)

-- T9: its seven numbers: type, count, four arguments with zeros after those that count, length
unfoldable pub numbers_of : Term → ℕ → List ℕ
numbers_of x l = type_of x ∷ length (arguments_of x) ∷ (take 4 (arguments_of x ++ replicate 4 0) ++ (l ∷ []))

-- T9: the table with one entry more: these seven numbers, and no handle for any knower
unfoldable pub add_entry : Table → List ℕ → Table
add_entry t ns = set_used (with_row t (new_entry t) (ns ++ replicate (1 + most t) 0)) (new_entry t)

-- T9: the table with this term, of this length, as its new entry
unfoldable pub create : Table → Term → ℕ → Table
create t x l = add_entry t (numbers_of x l)

-- ---- T10: finding an entry
-- T10: entry e is data of value d
unfoldable pub is_datum_of : Table → ℕ → ℕ → Bool
is_datum_of t d e = is_datum t e and eqb (argument t e 1) d

-- T10: the lowest data entry of value d; 0 for none
unfoldable pub find_datum : Table → ℕ → ℕ
find_datum t d = lowest (is_datum_of t d) (used t)

-- T10: entry e is a list with just these elements
unfoldable pub is_list_of : Table → List ℕ → ℕ → Bool
is_list_of t xs e = is_list t e and same (elements t e) xs

-- T10: the lowest list entry with just these elements; 0 for none
unfoldable pub find_list : Table → List ℕ → ℕ
find_list t xs = lowest (is_list_of t xs) (used t)

-- T10: entry e is a nonce that r made for s
unfoldable pub is_nonce_of : Table → ℕ → ℕ → ℕ → Bool
is_nonce_of t r s e = is_nonce t e and eqb (argument t e 1) r and eqb (argument t e 2) s
