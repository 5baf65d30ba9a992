-- Every number of a table and of an answer stays one that a word holds, if the requests' own are: all that is written is such a number, a
-- new entry's length by the test for room. Assumes nothing.
use Rattle.std.specs.Prelude.{if◌then◌else◌}
use Prim.Native.Nat.{ℕ, zero, suc, ◌+◌, ◌*◌, ◌≤◌, ◌<◌}
use native.Mathlib.Omega.{arith}
use mathlib.Core.Path.{◌≡◌, refl}
use mathlib.Core.Logic.{◌⊎◌, inl, inr}
use mathlib.Core.Bool.{Bool, true, false}
use mathlib.Core.List.Memᴰ
use mathlib.Core.List.{List, [], ◌∷◌, ◌++◌, map, Memᴰ}
use lib.Dec.{eqb, leb, ltb}
use lib.ListN.{length, get_or, take, drop, set, replicate, length-append, length-take, length-map}
use borrow.Author.Tests.{ltb-true, leb-true}
use Rattle.rules.specs.Choice.{◌and◌, ◌or◌, every, lowest}
use Rattle.rules.specs.Table.{Table, size, row_width, this_version, most_of, most, words_for, word, put, with_row, largest, raised, used, participants, next_handle, set_next_handle, count_at, argument, handle, set_handle, is_participant}
use Rattle.rules.specs.Terms.{Term, datum, nonce, list, ciphertext, secret_key, public_key, blank, type_of, arguments_of, is_datum, is_list, is_ciphertext, is_secret_key, is_public_key, longest, datum_length, secret_key_length, public_key_length, public_key_of, new_entry, numbers_of, add_entry, create, find_datum, find_list, is_datum_of, is_nonce_of}
use Rattle.rules.specs.Handles.{holds, grant, grant_each, entry_of, names}
use Rattle.rules.specs.SetUp.{new_head, empty_table, grant_named, add_keys, add_all_keys, set_up_table}
use Rattle.rules.specs.Outcome.{Outcome, need, need_room, is_short, gives_handle}
use Rattle.rules.specs.Commands.{give_new, give_found_or_new, store, new_nonce, make_list_of, make_list, project_of, project, encrypt_of, encrypt, decrypt_of, decrypt, value_of, parse_of, parse}
use Rattle.rules.specs.Steps.{may_act, Made, make, make_unless, unless_found, sealed_lengths, send, named_lengths, send_named, start, Message, first, second, third, none, read_one, read_two, read_more, read_list, read_message, is_for, sealed_in, plain_in, answer_first, answer_second, alone_length, answer_message, deliver_list, deliver}
use Rattle.rules.specs.Machine.{Start, Deliver, Store, Nonce, MakeList, Project, Encrypt, Decrypt, Parse, Record, SetUp, Asks, act, step, set_up, perform}
use Rattle.rules.proofs.Logic.{and_left, and_right}
use Rattle.rules.proofs.Words.{most_high}

-- ---- numbers that a word holds
pub data Low : List ℕ → Type 0 where
  none_low : Low []
  more_low : {x : ℕ} {xs : List ℕ} → x < 65536 → Low xs → Low (x ∷ xs)

first_low : {x : ℕ} {xs : List ℕ} → Low (x ∷ xs) → x < 65536
first_low (more_low l h) = l

low_at : {xs : List ℕ} (i : ℕ) → Low xs → get_or xs i 0 < 65536
low_at i none_low = omega arith
low_at zero (more_low l h) = l
low_at (suc i) (more_low l h) = low_at i h

low_set : {xs : List ℕ} (i : ℕ) {v : ℕ} → v < 65536 → Low xs → Low (set xs i v)
low_set i l none_low = none_low
low_set zero l (more_low m h) = more_low l h
low_set (suc i) l (more_low m h) = more_low m (low_set i l h)

low_append : {xs ys : List ℕ} → Low xs → Low ys → Low (xs ++ ys)
low_append none_low k = k
low_append (more_low l h) k = more_low l (low_append h k)

low_after : (xs : List ℕ) {ys : List ℕ} → Low (xs ++ ys) → Low ys
low_after [] h = h
low_after (x ∷ xs) (more_low l h) = low_after xs h

low_take : (n : ℕ) {xs : List ℕ} → Low xs → Low (take n xs)
low_take zero h = none_low
low_take (suc n) none_low = none_low
low_take (suc n) (more_low l h) = more_low l (low_take n h)

low_drop : (n : ℕ) {xs : List ℕ} → Low xs → Low (drop n xs)
low_drop zero h = h
low_drop (suc n) none_low = none_low
low_drop (suc n) (more_low l h) = low_drop n h

pub low_replicate : (n : ℕ) {v : ℕ} → v < 65536 → Low (replicate n v)
low_replicate zero h = none_low
low_replicate (suc n) h = more_low h (low_replicate n h)

low_map : (f : ℕ → ℕ) → ((x : ℕ) → f x < 65536) → (xs : List ℕ) → Low (map f xs)
low_map f h [] = none_low
low_map f h (x ∷ xs) = more_low (h x) (low_map f h xs)

pub low_member : {xs : List ℕ} → Low xs → (v : ℕ) → Memᴰ v xs → v < 65536
low_member none_low v i = absurd (Memᴰ.not-nil i)
low_member (more_low {x} {xs} l h) v i = go (Memᴰ.cases_cons i) (low_member h v)
  where
    go : (v ≡ x) ⊎ Memᴰ v xs → (Memᴰ v xs → v < 65536) → v < 65536
    go (inl e) f = rw e l
    go (inr j) f = f j

low_or : (b : Bool) {x y : List ℕ} → Low x → Low y → Low (if b then x else y)
low_or true h k = h
low_or false h k = k

pub small_or : (b : Bool) (x y : ℕ) → x < 65536 → y < 65536 → (if b then x else y) < 65536
small_or true x y h k = h
small_or false x y h k = k

raised_small : (n : ℕ) → n < 65536 → raised n < 65536
unfolding raised largest
raised_small n h = go (ltb n 65535) refl
  where
    go : (b : Bool) → ltb n 65535 ≡ b → (if b then n + 1 else n) < 65536
    go true e = omega (arith, ltb-true n 65535 e)
    go false e = h

lowest_below : (f : ℕ → Bool) (n : ℕ) → lowest f n ≤ n
unfolding lowest
lowest_below f zero = omega arith
lowest_below f (suc n) = go (eqb (lowest f n) 0) (f (suc n)) (lowest_below f n)
  where
    go : (b c : Bool) → lowest f n ≤ n → (if b then (if c then suc n else 0) else lowest f n) ≤ suc n
    go true true l = omega arith
    go true false l = omega arith
    go false c l = omega arith

-- ---- tables
module _ {t : Table} (h : Low t) where
  word_small : (e k : ℕ) → word t e k < 65536
  unfolding word
  word_small e k = low_at _ h

  low_put : (e k : ℕ) {v : ℕ} → v < 65536 → Low (put t e k v)
  unfolding put
  low_put e k l = low_set _ l h

  low_row : (e : ℕ) {ys : List ℕ} → Low ys → Low (with_row t e ys)
  unfolding with_row
  low_row e l = low_or (leb (row_width t * e + row_width t) (size t))
      (low_append (low_take (row_width t * e) h) (low_append l (low_drop (row_width t * e + row_width t) h))) h

  next_small : (k : ℕ) → next_handle t k < 65536
  unfolding next_handle
  next_small k = small_or (leb k (most t)) _ 1 (word_small 0 (5 + k)) (omega arith)

  handle_small : (k e : ℕ) → handle t k e < 65536
  unfolding handle
  handle_small k e = small_or (leb k (most t)) _ 0 (word_small e (7 + k)) (omega arith)

  new_small : new_entry t < 65536
  unfolding new_entry
  new_small = raised_small (used t) (word_small 0 4)

  found_small : (f : ℕ → Bool) → lowest f (used t) < 65536
  found_small f = omega (arith, lowest_below f (used t), word_small 0 4)

  entry_small : (k n : ℕ) → entry_of t k n < 65536
  unfolding entry_of
  entry_small k n = found_small (names t k n)

  low_hold : (k e : ℕ) {n : ℕ} → n < 65536 → Low (set_handle t k e n)
  unfolding set_handle
  low_hold k e l = low_or (leb k (most t)) (low_put e (7 + k) l) h

  low_next : (k : ℕ) {n : ℕ} → n < 65536 → Low (set_next_handle t k n)
  unfolding set_next_handle
  low_next k l = low_or (leb k (most t)) (low_put 0 (5 + k) l) h

low_grant : {t : Table} (k e : ℕ) → Low t → Low (grant t k e)
unfolding grant
low_grant {t} k e h =
    let n = next_small h k in
    low_or (holds t k e) h (low_next (low_hold h k e n) k (raised_small _ n))

low_each : {t : Table} (k : ℕ) (es : List ℕ) → Low t → Low (grant_each t k es)
unfolding grant_each
low_each k [] h = h
low_each {t = t} k (e ∷ es) h = low_each {t = grant t k e} k es (low_grant k e h)

-- a term of at most four arguments
record Fits (x : Term) : Type 0 where
  low : Low (arguments_of x)
  few : length (arguments_of x) ≤ 4

type_small : (x : Term) → type_of x < 65536
unfolding type_of
type_small (datum v) = omega arith
type_small (nonce o p) = omega arith
type_small (list xs) = omega arith
type_small (ciphertext k l) = omega arith
type_small (secret_key p) = omega arith
type_small (public_key p) = omega arith
type_small blank = omega arith

low_create : {t : Table} {x : Term} {l : ℕ} → Fits x → l < 65536 → Low t → Low (create t x l)
unfolding create add_entry numbers_of
low_create {t} {x} {l} f s h =
    let zeros : (n : ℕ) → Low (replicate n 0) = λ n. low_replicate n (omega arith) in
    let a = low_append (low_take 4 (low_append f.low (zeros 4))) (more_low s none_low) in
    let c : length (arguments_of x) < 65536 = omega (arith, f.few) in
    low_put (low_row h (new_entry t) (low_append (more_low (type_small x) (more_low c a)) (zeros (1 + most t)))) 0 4 (new_small h)

-- ---- outcomes
pub record Good (o : Outcome) : Type 0 where
  pub answers : Low o.answer
  pub leaves : Low o.table

good_or : (b : Bool) {x y : Outcome} → Good x → Good y → Good (if b then x else y)
good_or true h k = h
good_or false h k = k

one_low : {n v : ℕ} → n < 65536 → v < 65536 → Low (n ∷ v ∷ [])
one_low h k = more_low h (more_low k none_low)

three_low : {n u v w : ℕ} → n < 65536 → u < 65536 → v < 65536 → w < 65536 → Low (n ∷ u ∷ v ∷ w ∷ [])
three_low h k l m = more_low h (more_low k (more_low l (more_low m none_low)))

module _ {t : Table} (h : Low t) where
  good_need : (b : Bool) (k : ℕ) {rest : Outcome} → k < 65536 → (b ≡ true → Good rest) → Good (need b k t rest)
  unfolding need
  good_need true k l f = f refl
  good_need false k l f = record { answers = one_low (omega arith) l; leaves = h }

  low_lengths : (ls : List ℕ) → every is_short ls ≡ true → Low ls
  unfolding every is_short longest
  low_lengths [] e = none_low
  low_lengths (l ∷ ls) e =
      let s : l < 65536 = omega (arith, leb-true l 4095 (and_left (leb l 4095) (every is_short ls) e)) in
      more_low s (low_lengths ls (and_right (leb l 4095) (every is_short ls) e))

  good_room : (ls : List ℕ) {rest : Outcome} → (Low ls → Good rest) → Good (need_room t ls rest)
  unfolding need_room
  good_room ls f = good_need _ 9 (omega arith) (λ e. good_need _ 10 (omega arith) (λ r. f (low_lengths ls e)))

  good_hand : (e : ℕ) → Good (gives_handle t e)
  unfolding gives_handle
  good_hand e =
      let g = low_grant 0 e h in
      record { answers = one_low (omega arith) (handle_small g 0 e); leaves = g }

  good_parse : (e : ℕ) → Good (parse_of t e)
  unfolding parse_of value_of
  good_parse e =
      let v =
      small_or (is_list t e) _ _ (word_small h e 1)
      (small_or (is_ciphertext t e) _ _ (handle_small h 0 (argument t e 1))
      (small_or (is_datum t e or is_secret_key t e or is_public_key t e) _ 0 (word_small h e 2) (omega arith))) in
      record { answers = three_low (omega arith) (word_small h e 0) v (word_small h e 6); leaves = h }

module _ {t : Table} (h : Low t) where
  good_new : {x : Term} → Fits x → Good (give_new t x)
  unfolding give_new
  good_new {x} f = good_room h _ (λ ls. good_hand (low_create f (first_low ls) h) (new_entry t))

  good_found : (e : ℕ) {x : Term} → Fits x → Good (give_found_or_new t e x)
  unfolding give_found_or_new
  good_found e f = good_or (eqb e 0) (good_new f) (good_hand h e)

-- ---- the adversary's commands
fits_entries : (xs : List ℕ) → Low xs → length xs ≤ 4 → Fits (list xs)
unfolding arguments_of
fits_entries xs h l = record { low = h; few = l }

fits_two : (k l : ℕ) → k < 65536 → l < 65536 → Fits (ciphertext k l)
unfolding arguments_of
fits_two k l h g = record { low = one_low h g; few = omega arith }

fits_nonce : (k l : ℕ) → k < 65536 → l < 65536 → Fits (nonce k l)
unfolding arguments_of
fits_nonce k l h g = record { low = one_low h g; few = omega arith }

fits_datum : (d : ℕ) → d < 65536 → Fits (datum d)
unfolding arguments_of
fits_datum d h = record { low = more_low h none_low; few = omega arith }

few_asked : (f : ℕ → ℕ) (k a b c d : ℕ) → length (map f (take k (a ∷ b ∷ c ∷ d ∷ []))) ≤ 4
few_asked f k a b c d = rw (length-map (take k (a ∷ b ∷ c ∷ d ∷ [])) f, length-take) (omega arith)

module _ {t : Table} (h : Low t) where
  good_store : (d : ℕ) → d < 65536 → Good (store t d)
  unfolding store
  good_store d l = good_found h _ (fits_datum d l)

  good_nonce : Good (new_nonce t)
  unfolding new_nonce
  good_nonce = good_new h (fits_nonce 0 0 (omega arith) (omega arith))

  good_list : (k a b c d : ℕ) → Good (make_list t k (a ∷ b ∷ c ∷ d ∷ []))
  unfolding make_list make_list_of
  good_list k a b c d =
      good_need h _ 4 (omega arith) (λ e. good_need h _ 5 (omega arith) (λ e. good_need h _ 6 (omega arith) (λ e.
      good_found h _ (fits_entries _ (low_map (entry_of t 0) (entry_small h 0) (take k (a ∷ b ∷ c ∷ d ∷ []))) (few_asked (entry_of t 0) k a b c d)))))

  good_project : (n i : ℕ) → Good (project t n i)
  unfolding project project_of
  good_project n i =
      good_need h _ 4 (omega arith) (λ e. good_need h _ 5 (omega arith) (λ e. good_need h _ 6 (omega arith) (λ e.
      good_need h _ 7 (omega arith) (λ e. good_hand h _))))

  good_encrypt : (k l : ℕ) → Good (encrypt t k l)
  unfolding encrypt encrypt_of
  good_encrypt k l =
      good_need h _ 5 (omega arith) (λ e. good_need h _ 6 (omega arith) (λ e.
      good_new h (fits_two _ _ (entry_small h 0 k) (entry_small h 0 l))))

  good_decrypt : (k c : ℕ) → Good (decrypt t k c)
  unfolding decrypt decrypt_of
  good_decrypt k c =
      good_need h _ 5 (omega arith) (λ e. good_need h _ 6 (omega arith) (λ e. good_need h _ 8 (omega arith) (λ e. good_hand h _)))

  good_parses : (n : ℕ) → Good (parse t n)
  unfolding parse
  good_parses n = good_need h _ 5 (omega arith) (λ e. good_parse h _)

-- ---- the honest steps
datum_short : datum_length < 65536
unfolding datum_length
datum_short = omega arith

record Makes (m : Made) : Type 0 where
  entry : m.entry < 65536
  leaves : Low m.table

makes_new : {t : Table} {x : Term} {l : ℕ} → Fits x → l < 65536 → Low t → Makes (make t x l)
unfolding make
makes_new f s h = record { entry = new_small h; leaves = low_create f s h }

makes_unless : (e : ℕ) {t : Table} {x : Term} {l : ℕ} → e < 65536 → Fits x → l < 65536 → Low t → Makes (make_unless e t x l)
unfolding make_unless
makes_unless e {t} {x} {l} r f s h = go (eqb e 0)
  where
    go : (b : Bool) → Makes (if b then make t x l else record { entry = e; table = t })
    go true = makes_new f s h
    go false = record { entry = r; leaves = h }

-- who may act with whom: numbers of participants
acting_low : (t : Table) (p q : ℕ) → may_act t p q ≡ true → (p ≤ 12) × (q ≤ 12)
unfolding may_act is_participant
acting_low t p q e =
    let rest = and_right (leb 1 p and leb p (participants t) and leb p (most t)) _ e in
    let a = leb-true p (most t) (and_right (leb p (participants t)) _ (and_right (leb 1 p) _ (and_left _ _ e))) in
    let b = leb-true q (most t) (and_right (leb q (participants t)) _ (and_right (leb 1 q) _ (and_left _ _ rest))) in
    (omega (arith, a, most_high t), omega (arith, b, most_high t))

module _ {p q : ℕ} (pq : (p ≤ 12) × (q ≤ 12)) where
  good_send : (known : List ℕ) {inner : Made} (l : ℕ) → Makes inner → Low (sealed_lengths l) → Good (send p q known inner l)
  unfolding send sealed_lengths public_key_of
  good_send known {inner} l m (more_low c (more_low o n)) =
      let k : 2 * q < 65536 = omega arith in
      let a = makes_new (fits_two (2 * q) inner.entry k m.entry) c m.leaves in
      let b = makes_new (fits_entries _ (more_low a.entry none_low) (omega arith)) o a.leaves in
      let z = low_grant 0 _ (low_each p _ b.leaves) in
      let u : p < 65536 = omega arith in
      let v : q < 65536 = omega arith in
      record { answers = three_low (omega arith) u v (handle_small z 0 _); leaves = z }

  good_named : {t : Table} (known repeated : List ℕ) → Low t → Low repeated → length repeated ≤ 2 → Low (named_lengths t p repeated)
      → Good (send_named t p q known repeated)
  unfolding send_named named_lengths find_datum
  good_named {t} known repeated h r few (more_low a rest) =
      let u : p < 65536 = omega arith in
      let v : q < 65536 = omega arith in
      let n = makes_new (fits_nonce p q u v) a h in
      let d = makes_unless (find_datum t p) (found_small h _) (fits_datum p u) datum_short n.leaves in
      let ls = low_after (unless_found (find_datum t p) datum_length) rest in
      let i = makes_new (fits_entries _ (low_append r (one_low n.entry d.entry)) (rw (length-append repeated) (omega arith))) (first_low ls) d.leaves in
      good_send _ _ i (low_after (_ ∷ []) ls)

  good_first : {t : Table} (known : List ℕ) (x : ℕ) → Low t → x < 65536 → Good (answer_first t p q known x)
  unfolding answer_first
  good_first known x h l = good_room h _ (good_named known (x ∷ []) h (more_low l none_low) (omega arith))

  good_second : {t : Table} (known : List ℕ) (x : ℕ) → Low t → x < 65536 → Good (answer_second t p q known x)
  unfolding answer_second unless_found find_list make_unless
  good_second {t} known x h l = good_room h _ (go (find_list t (x ∷ [])) (found_small h _))
    where
      n : ℕ
      n = alone_length t x

      go : (f : ℕ) → f < 65536 → Low (unless_found f n ++ sealed_lengths n) → Good (send p q known (make_unless f t (list (x ∷ [])) n) n)
      go f r ls = good_send known n (at (eqb f 0) ls) (low_after (unless_found f n) ls)
        where
          at : (b : Bool) → Low ((if b then n ∷ [] else []) ++ sealed_lengths n)
              → Makes (if b then make t (list (x ∷ [])) n else record { entry = f; table = t })
          at true (more_low s k) = makes_new (fits_entries _ (more_low l none_low) (omega arith)) s h
          at false k = record { entry = r; leaves = h }

-- what a message gives back is an entry that it names
data Kind : Message → Type 0 where
  kind_first : {x : ℕ} → x < 65536 → Kind (first x)
  kind_second : {x : ℕ} → x < 65536 → Kind (second x)
  kind_third : Kind third
  kind_none : Kind none

kind_or : (b : Bool) {x y : Message} → Kind x → Kind y → Kind (if b then x else y)
kind_or true h k = h
kind_or false h k = k

module _ {t : Table} (h : Low t) where
  kind_read : (r s l : ℕ) → Kind (read_message t r s l)
  unfolding read_message read_list read_one read_two read_more
  kind_read r s l =
      let m = plain_in t l in
      kind_or (is_for t r (sealed_in t l))
      (kind_or (eqb (count_at t m) 1) (kind_or (is_nonce_of t r s (argument t m 1)) kind_third kind_none)
      (kind_or (eqb (count_at t m) 2) (kind_or (is_datum_of t s (argument t m 2)) (kind_first (word_small h m 2)) kind_none)
      (kind_or (leb 3 (count_at t m) and leb (count_at t m) 4)
      (kind_or (is_nonce_of t r s (argument t m 1) and is_datum_of t s (argument t m 3)) (kind_second (word_small h m 3)) kind_none)
      kind_none)))
      kind_none

  good_message : {p q : ℕ} → (p ≤ 12) × (q ≤ 12) → (l : ℕ) {m : Message} → Kind m → Good (answer_message t p q l m)
  unfolding answer_message
  good_message pq l (kind_first {x} s) = good_first pq _ x h s
  good_message pq l (kind_second {x} s) = good_second pq _ x h s
  good_message {p} {q} pq l kind_third =
      let u : p < 65536 = omega arith in
      let v : q < 65536 = omega arith in
      record { answers = more_low {x = 3} (omega arith) (one_low u v); leaves = low_each p _ h }
  good_message pq l kind_none = record { answers = more_low {x = 4} (omega arith) none_low; leaves = h }

  good_start : (u v : ℕ) → Good (start t u v)
  unfolding start
  good_start u v =
      good_need h _ 3 (omega arith) (λ e. good_room h _ (good_named (acting_low t u v e) [] [] h none_low (omega arith)))

  good_deliver : (s r n : ℕ) → Good (deliver t s r n)
  unfolding deliver deliver_list
  good_deliver s r n =
      good_need h _ 3 (omega arith) (λ a. good_need h _ 5 (omega arith) (λ e. good_need h _ 6 (omega arith) (λ e.
      good_message (acting_low t r s a) _ (kind_read r s _))))

-- ---- set-up
low_named : {t : Table} (named : ℕ → Bool) (e k : ℕ) → Low t → Low (grant_named t named e k)
unfolding grant_named
low_named named e zero h = low_or (named 0) (low_grant 0 e h) h
low_named named e (suc k) h = let s = low_named named e k h in low_or (named (suc k)) (low_grant (suc k) e s) s

fits_keys : (p : ℕ) → p < 65536 → Fits (secret_key p) × Fits (public_key p)
unfolding arguments_of
fits_keys p h = (record { low = more_low h none_low; few = omega arith }, record { low = more_low h none_low; few = omega arith })

low_keys : {t : Table} (m p : ℕ) → p < 65536 → Low t → Low (add_keys t m p)
unfolding add_keys secret_key_length public_key_length
low_keys m p l h =
    let f = fits_keys p l in
    low_named _ _ _ (low_create f.1 (omega arith) (low_named _ _ _ (low_create f.0 (omega arith) h)))

low_all_keys : {t : Table} (m n : ℕ) → n < 65536 → Low t → Low (add_all_keys t m n)
unfolding add_all_keys
low_all_keys m zero l h = h
low_all_keys m (suc n) l h = low_keys m (suc n) l (low_all_keys m n (omega arith) h)

low_empty : {t : Table} (n m c : ℕ) → n < 65536 → m < 65536 → c < 65536 → Low t → Low (empty_table t n m c)
unfolding empty_table new_head this_version
low_empty n m c a b d h =
    let nexts = low_replicate (1 + most_of 1) {v = 1} (omega arith) in
    let spares = one_low {n = 0} {v = 0} (omega arith) (omega arith) in
    let rows = low_replicate ((8 + most_of 1) * c) {v = 0} (omega arith) in
    low_append (more_low {x = 1} (omega arith) (more_low a (more_low b (more_low d (more_low {x = 0} (omega arith) (low_append nexts spares))))))
    (low_append rows (low_drop (words_for 1 c) h))

good_set_up : {t : Table} (n m c : ℕ) → n < 65536 → m < 65536 → c < 65536 → Low t → Good (set_up n m c t)
unfolding set_up set_up_table
good_set_up n m c a b d h =
    let s = low_all_keys m n a (low_empty n m c a b d h) in
    good_need h _ 2 (omega arith) (λ e. record { answers = one_low (omega arith) (word_small s 0 4); leaves = s })

-- ---- a record whose numbers are such
pub data Asked : Record → Type 0 where
  sets_up : {n m c : ℕ} → n < 65536 → m < 65536 → c < 65536 → Asked (SetUp n m c)
  stores : {d : ℕ} → d < 65536 → Asked (Asks (Store d))
  starts : {u v : ℕ} → Asked (Asks (Start u v))
  delivers : {s r h : ℕ} → Asked (Asks (Deliver s r h))
  asks_nonce : Asked (Asks Nonce)
  lists : {k a b c d : ℕ} → Asked (Asks (MakeList k a b c d))
  projects : {h i : ℕ} → Asked (Asks (Project h i))
  encrypts : {k l : ℕ} → Asked (Asks (Encrypt k l))
  decrypts : {k c : ℕ} → Asked (Asks (Decrypt k c))
  parses : {h : ℕ} → Asked (Asks (Parse h))

pub good_perform : {t : Table} {r : Record} → Asked r → Low t → Good (perform r t)
unfolding perform step act
good_perform (sets_up {n} {m} {c} a b d) h = good_set_up n m c a b d h
good_perform (stores l) h = good_need h _ 1 (omega arith) (λ e. good_store h _ l)
good_perform starts h = good_need h _ 1 (omega arith) (λ e. good_start h _ _)
good_perform delivers h = good_need h _ 1 (omega arith) (λ e. good_deliver h _ _ _)
good_perform asks_nonce h = good_need h _ 1 (omega arith) (λ e. good_nonce h)
good_perform lists h = good_need h _ 1 (omega arith) (λ e. good_list h _ _ _ _ _)
good_perform projects h = good_need h _ 1 (omega arith) (λ e. good_project h _ _)
good_perform encrypts h = good_need h _ 1 (omega arith) (λ e. good_encrypt h _ _)
good_perform decrypts h = good_need h _ 1 (omega arith) (λ e. good_decrypt h _ _)
good_perform parses h = good_need h _ 1 (omega arith) (λ e. good_parses h _)
