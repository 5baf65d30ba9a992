-- The honest steps, start and deliver: who may act, how a message is read, what is sent, who is granted what (rules N1 to N7).
use Rattle.std.specs.Prelude.{ℕ, ◌+◌, Bool, not, List, [], ◌∷◌, ◌++◌, eqb, leb, take, if◌then◌else◌}
use Rattle.rules.specs.Choice.{◌and◌, sum_of}
use Rattle.rules.specs.Table.{Table, count_at, argument, length_at, handle, is_participant, honest}
use Rattle.rules.specs.Terms.{Term, datum, nonce, list, ciphertext, is_list, is_ciphertext, elements, public_key_of, datum_length, nonce_length, list_length, ciphertext_length, new_entry, create, find_datum, find_list, is_datum_of, is_nonce_of}
use Rattle.rules.specs.Handles.{grant, grant_each, entry_of, holds_handle}
use Rattle.rules.specs.Outcome.{Outcome, gives, sent, accepted, dropped, need, need_room}

-- N1: two participants, not the same, of whom the acting one is honest
unfoldable pub may_act : Table → ℕ → ℕ → Bool
may_act t acting peer =
    is_participant t acting and is_participant t peer and not (eqb acting peer) and honest t acting

-- ---- N2: the entries of a step, made one after the other
pub record Made : Type 0 where
  pub entry : ℕ
  pub table : Table

unfoldable pub make : Table → Term → ℕ → Made
make t x l = record { entry = new_entry t; table = create t x l }

-- N2: the entry that was found, or a new one where none was (0)
unfoldable pub make_unless : ℕ → Table → Term → ℕ → Made
make_unless found t x l = if eqb found 0 then make t x l else record { entry = found; table = t }

-- N2: what `make_unless` needs room for: the length of a new entry, or nothing
unfoldable pub unless_found : ℕ → ℕ → List ℕ
unless_found found l = if eqb found 0 then l ∷ [] else []

-- ---- N3: a list, sealed and sent
-- N3: the lengths of the ciphertext and of the outer list, by the length of the list
unfoldable pub sealed_lengths : ℕ → List ℕ
sealed_lengths l = ciphertext_length l ∷ list_length (ciphertext_length l) ∷ []

-- N3: p's list under q's key, and the list of that ciphertext. Then the grants: to p what it knows by now, the list, the ciphertext
-- and the outer list, in this order; to knower 0 the outer list, whose handle there is in the answer
unfoldable pub send : ℕ → ℕ → List ℕ → Made → ℕ → Outcome
send p q known inner l =
    let c = make inner.table (ciphertext (public_key_of q) inner.entry) (ciphertext_length l) in
    let o = make c.table (list (c.entry ∷ [])) (list_length (ciphertext_length l)) in
    let g = grant_each o.table p (known ++ (inner.entry ∷ c.entry ∷ o.entry ∷ [])) in
    let z = grant g 0 o.entry in
    gives (sent p q (handle z 0 o.entry)) z

-- ---- N4: a new nonce and the sender's name, after what is repeated of the message answered
unfoldable pub named_length : Table → List ℕ → ℕ
named_length t repeated = list_length (sum_of (length_at t) repeated + nonce_length + datum_length)

unfoldable pub named_lengths : Table → ℕ → List ℕ → List ℕ
named_lengths t p repeated =
    let l = named_length t repeated in
    nonce_length ∷ (unless_found (find_datum t p) datum_length ++ (l ∷ sealed_lengths l))

unfoldable pub send_named : Table → ℕ → ℕ → List ℕ → List ℕ → Outcome
send_named t p q known repeated =
    let l = named_length t repeated in
    let n = make t (nonce p q) nonce_length in
    let d = make_unless (find_datum t p) n.table (datum p) datum_length in
    send p q (known ++ (n.entry ∷ d.entry ∷ [])) (make d.table (list (repeated ++ (n.entry ∷ d.entry ∷ []))) l) l

-- N4: start
unfoldable pub start : Table → ℕ → ℕ → Outcome
start t u v =
    need (may_act t u v) 3 t
    (need_room t (named_lengths t u []) (send_named t u v [] []))

-- ---- N5: how a delivered list is read
-- N5: what honest r takes a message for, and what it answers with
pub data Message : Type 0 where
  first : ℕ → Message
  second : ℕ → Message
  third : Message
  none : Message

-- N5: a list of one element
unfoldable pub read_one : Table → ℕ → ℕ → ℕ → Message
read_one t r s l = if is_nonce_of t r s (argument t l 1) then third else none

-- N5: a list of two
unfoldable pub read_two : Table → ℕ → ℕ → ℕ → Message
read_two t r s l = if is_datum_of t s (argument t l 2) then first (argument t l 1) else none

-- N5: a list of three or four
unfoldable pub read_more : Table → ℕ → ℕ → ℕ → Message
read_more t r s l =
    if is_nonce_of t r s (argument t l 1) and is_datum_of t s (argument t l 3) then second (argument t l 2) else none

unfoldable pub read_list : Table → ℕ → ℕ → ℕ → Message
read_list t r s l =
    if eqb (count_at t l) 1 then read_one t r s l else
    if eqb (count_at t l) 2 then read_two t r s l else
    if leb 3 (count_at t l) and leb (count_at t l) 4 then read_more t r s l else none

-- N5: entry c is a ciphertext under r's key
unfoldable pub is_for : Table → ℕ → ℕ → Bool
is_for t r c = is_ciphertext t c and eqb (argument t c 1) (public_key_of r)

-- N5: element 1 of the delivered list l, and its list
abbrev pub sealed_in : Table → ℕ → ℕ
sealed_in t l = argument t l 1

abbrev pub plain_in : Table → ℕ → ℕ
plain_in t l = argument t (sealed_in t l) 2

unfoldable pub read_message : Table → ℕ → ℕ → ℕ → Message
read_message t r s l = if is_for t r (sealed_in t l) then read_list t r s (plain_in t l) else none

-- ---- N6: what r is granted of a message that it takes, in this order
unfoldable pub opened : Table → ℕ → List ℕ
opened t l = l ∷ sealed_in t l ∷ plain_in t l ∷ take 3 (elements t (plain_in t l))

-- ---- N7: the answers
-- N7: to a first message: x1 back, with a new nonce and the own name
unfoldable pub answer_first : Table → ℕ → ℕ → List ℕ → ℕ → Outcome
answer_first t r s known x1 = need_room t (named_lengths t r (x1 ∷ [])) (send_named t r s known (x1 ∷ []))

-- N7: to a second message: x2 back, alone
unfoldable pub alone_length : Table → ℕ → ℕ
alone_length t x = list_length (length_at t x)

unfoldable pub answer_second : Table → ℕ → ℕ → List ℕ → ℕ → Outcome
answer_second t r s known x2 =
    let l = alone_length t x2 in
    let f = find_list t (x2 ∷ []) in
    need_room t (unless_found f l ++ sealed_lengths l) (send r s known (make_unless f t (list (x2 ∷ [])) l) l)

unfoldable pub answer_message : Table → ℕ → ℕ → ℕ → Message → Outcome
answer_message t r s l (first x1) = answer_first t r s (opened t l) x1
answer_message t r s l (second x2) = answer_second t r s (opened t l) x2
answer_message t r s l third = gives (accepted r s) (grant_each t r (opened t l))
answer_message t r s l none = gives dropped t

unfoldable pub deliver_list : Table → ℕ → ℕ → ℕ → Outcome
deliver_list t s r l = need (is_list t l) 6 t (answer_message t r s l (read_message t r s l))

-- N7: deliver
unfoldable pub deliver : Table → ℕ → ℕ → ℕ → Outcome
deliver t s r h =
    need (may_act t r s) 3 t
    (need (holds_handle t 0 h) 5 t
    (deliver_list t s r (entry_of t 0 h)))
