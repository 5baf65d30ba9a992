-- How many bytes the lines of a file of bytes have: a record has at least 3 bytes, and its line at most 31, since its numbers are such as a
-- word holds. Assumes nothing.
use Rattle.std.specs.Prelude.{Err, if◌then◌else◌}
use Prim.Native.Nat.{ℕ, zero, suc, ◌+◌, ◌-◌, ◌*◌, ◌≤◌, ◌<◌}
use native.Mathlib.Omega.{arith}
use native.Mathlib.Decide.{dec_lt}
use mathlib.Core.Path.{◌≡◌, refl, sym, ◌∙◌, subst}
use mathlib.Core.Bool.{Bool, true, false}
use mathlib.Core.List.{List, [], ◌∷◌, append-nil}
use lib.Dec.{leb}
use lib.ListN.{length, get_or, length-append}
use borrow.Author.Tests.{leb-true}
use Rattle.rules.specs.Choice.{◌and◌}
use Rattle.rules.specs.Table.{Table, this_version, words_for}
use Rattle.rules.specs.Outcome.{refused}
use Rattle.rules.specs.Machine.{Record, perform}
use Rattle.rules.specs.Session.{longest_file, file_fits, number, body_lengths, is_within, record_of, Reading, found, malformed, ended, body_number, read_body, read_record, Item, item, broken, stands_right, items_by, items_from, items_of}
use Rattle.rules.specs.Player.{line_of, lines_from, players_table, answers_to, played, most_bytes}
use Rattle.rules.specs.Meaning.{said}
use Rattle.rules.proofs.Logic.{and_left, and_right}
use Rattle.rules.proofs.Meaning.{unsaid}
use Rattle.rules.proofs.Answers.{answer_said}
use Rattle.rules.proofs.Lengths.{line_short}
use Rattle.rules.proofs.RoundTrip.{reads_end, reads_on}
use Rattle.rules.proofs.Small.{Low, none_low, more_low, low_member, low_replicate, small_or, Asked, sets_up, stores, starts, delivers, asks_nonce, lists, projects, encrypts, decrypts, parses, good_perform}

-- ---- what is read
asked_kind : (kind k : ℕ) (x : ℕ → ℕ) → ((i : ℕ) → x i < 65536) → Asked (record_of kind k x)
unfolding record_of
asked_kind zero k x h = sets_up (h 1) (h 2) (h 3)
asked_kind (suc zero) k x h = starts
asked_kind (suc (suc zero)) k x h = delivers
asked_kind (suc (suc (suc zero))) k x h = stores (h 1)
asked_kind (suc (suc (suc (suc zero)))) k x h = asks_nonce
asked_kind (suc (suc (suc (suc (suc zero))))) k x h = lists
asked_kind (suc (suc (suc (suc (suc (suc zero)))))) k x h = projects
asked_kind (suc (suc (suc (suc (suc (suc (suc zero))))))) k x h = encrypts
asked_kind (suc (suc (suc (suc (suc (suc (suc (suc zero)))))))) k x h = decrypts
asked_kind (suc (suc (suc (suc (suc (suc (suc (suc (suc kind))))))))) k x h = parses

data Reads : Reading → Type 0 where
  reads_record : {r : Record} {next : ℕ} → Asked r → Reads (found r next)
  reads_malformed : Reads malformed
  reads_ended : Reads ended

reads_or : (b : Bool) {x y : Reading} → Reads x → Reads y → Reads (if b then x else y)
reads_or true h k = h
reads_or false h k = k

malformed_ends : malformed ≡ ended → ⊥
malformed_ends q = let z : ◌≡◌ {A = ℕ} 0 1 = cc in omega arith

-- ---- a line
line_low : {t : Table} {r : Record} (place : ℕ) → place < 65536 → Asked r → Low t → length (line_of place (perform r t).answer) ≤ 31
line_low {t} {r} place l a h =
    let q = answer_said r t in
    let m = low_member (subst (λ (v : List ℕ). Low v) (sym q) (good_perform a h).answers) in
    subst (λ (v : List ℕ). length (line_of place v) ≤ 31) q (line_short place (unsaid (perform r t).answer) l m)

line_broken : (place : ℕ) → place < 65536 → length (line_of place (refused 11)) ≤ 31
unfolding said
line_broken place l = line_short place (Err (record { 0 = 11 })) l (low_member (more_low {x = 7} (omega arith) (more_low {x = 11} (omega arith) none_low)))

fits_lengths : (file : List ℕ) → file_fits file ≡ true → (1 ≤ length file) × (length file ≤ 65536)
unfolding file_fits longest_file
fits_lengths file f = (
  leb-true 1 (length file) (and_left (leb 1 (length file)) _ f),
  leb-true (length file) 65536 (and_left (leb (length file) 65536) _ (and_right (leb 1 (length file)) _ f)),
)

zeros_low : Low players_table
unfolding players_table
zeros_low = low_replicate (words_for this_version 512) (omega arith)

module _ (file : List ℕ) (bytes : (i : ℕ) → get_or file i 0 < 256) where
  number_small : (at : ℕ) → number file at < 65536
  unfolding number
  number_small at = omega (arith, bytes at, bytes (at + 1))

  body_small : (b k i : ℕ) → body_number file b k i < 65536
  unfolding body_number
  body_small b k i = small_or (leb i k) _ 0 (number_small (b + 2 * i - 1)) (omega arith)

  reads_small : (at : ℕ) → Reads (read_record file at)
  unfolding read_record read_body
  reads_small at =
      let b = at + 2 in
      let l = number file at in
      reads_or (leb (length file) at) reads_ended
      (reads_or (leb (at + 2) (length file))
      (reads_or (leb (b + l) (length file) and is_within (body_lengths (get_or file b 0)) l) (reads_record (asked_kind _ _ _ (body_small b _))) reads_malformed)
      reads_malformed)

  -- ---- the lines from a record on
  module _ (short : length file ≤ 65536) where
    abbrev Bound : ℕ → ℕ → List Item → Table → Type 0
    Bound place at items t = 3 * length (lines_from place (answers_to items t)) + 31 * at ≤ 31 * length file + 62

    bound_broken : (place at : ℕ) (t : Table) → place ≤ at → at < length file → Bound place at (broken ∷ []) t
    unfolding answers_to lines_from
    bound_broken place at t p l = rw (append-nil (line_of place (refused 11))) (omega (arith, line_broken place (omega arith)))

    bound_lines : (steps place at : ℕ) (t : Table) → Low t → place ≤ at → at ≤ length file → Bound place at (items_from steps file place at) t
    unfolding items_from items_by answers_to lines_from
    bound_lines zero place at t h p l = omega arith
    bound_lines (suc steps) place at t h p l = go (read_record file at) refl (reads_small at) (bound_lines steps (place + 1))
      where
        rest : ℕ → List Item
        rest = items_from steps file (place + 1)

        Next : Type 0
        Next = (next : ℕ) (s : Table) → Low s → place + 1 ≤ next → next ≤ length file → Bound (place + 1) next (rest next) s

        stands : (b : Bool) (r : Record) (next : ℕ) → Asked r → at + 3 ≤ next → next ≤ length file → Next
            → Bound place at (if b then item r ∷ rest next else broken ∷ []) t
        stands true r next a f g ih =
            let s = (perform r t).table in
            let n = ih next s (good_perform a h).leaves (omega arith) g in
            let k = line_low place (omega arith) a h in
            rw (length-append (line_of place (perform r t).answer) (lines_from (place + 1) (answers_to (rest next) s))) (omega arith)
        stands false r next a f g ih = bound_broken place at t p (omega arith)

        go : (r : Reading) → read_record file at ≡ r → Reads r → Next → Bound place at (items_by r place rest) t
        go (found r next) e (reads_record a) ih =
            let w = reads_on file at r next e in
            stands (stands_right r place) r next a w.0 w.1 ih
        go malformed e k ih = inside (dec_lt at (length file))
          where
            inside : Dec (at < length file) → Bound place at (broken ∷ []) t
            inside (yes f) = bound_broken place at t p f
            inside (no f) = let z : malformed ≡ ended = sym e ∙ reads_end file at (omega arith) in absurd (malformed_ends z)
        go ended e k ih = omega arith

  -- a file's whole output
  pub lines_within : length (played file) ≤ most_bytes
  unfolding played items_of most_bytes
  lines_within = go (file_fits file) refl
    where
      go : (b : Bool) → file_fits file ≡ b
          → length (if b then lines_from 1 (answers_to (items_of file) players_table) else line_of 0 (refused 11)) ≤ most_bytes
      go true f =
          let w = fits_lengths file f in
          let all = lines_from 1 (answers_to (items_of file) players_table) in
          let n : 3 * length all + 31 * 1 ≤ 31 * length file + 62 = bound_lines w.1 (length file) 1 1 players_table zeros_low (omega arith) w.0 in
          let r : length all ≤ most_bytes = omega arith in
          r
      go false f = omega (arith, line_broken 0 (omega arith))
