-- Players that must be shut out: nothing that meets the contract of `bench_play` is one of them. True since the contract leaves no choice
-- and the rules meet it, so that whatever meets it prints what the rules do, which sessions of a few records show. Assumes nothing.
use Prim.Native.Nat.{ℕ, zero, suc, ◌-◌, ◌*◌, ◌^◌, ◌≤◌, ◌<◌}
use native.Mathlib.Nat.{ℕ_set}
use native.Mathlib.Omega.{arith}
use mathlib.Core.Path.{◌≡◌, refl, sym, ap, ◌∙◌}
use mathlib.Core.Logic.{∥∥₁_elim}
use mathlib.Core.Bool.{Bool, true}
use mathlib.Core.List.{List, [], ◌∷◌, ◌++◌, is_set}
use lib.Dec.{leb, ltb}
use lib.ListN.{length, get_or, take, replicate}
use lib.Seq.{take-length, take-append-le}
use contract.Lifetimes.{Lfts}
use denote.Triple.Entry.{Args}
use denote.Triple.Clauses.{Ended}
use borrow.Author.Tests.{eqb-false, le-leb, leb-true, ltb-true}
use Rattle.tight.specs.Tight.{Written}
use Rattle.tight.specs.Meeting.{Inputs, Meeting, by_facts, agree}
use Rattle.rules.specs.Choice.{◌and◌, every}
use Rattle.rules.specs.Outcome.{ready, sent, accepted, parsed, refused}
use Rattle.rules.specs.Machine.{Request, Start, Deliver, Parse, Record, SetUp, Asks}
use Rattle.rules.specs.Session.{file_version, record_bytes, Item, item, items_of}
use Rattle.rules.specs.Player.{ascii, digits, decimal, word_of, spaced, line_of, lines_from, cut_lines, played, most_bytes}
use Rattle.rules.specs.Calls.{play_into}
use Rattle.rules.specs.Open.{everything}
use Rattle.rules.proofs.Logic.{and_left, and_right}
use Rattle.rules.proofs.Lines.{numbered}
use Rattle.rules.proofs.Sessions.{ready_line}
use Rattle.rules.proofs.Bytes.{lines_within}
use Rattle.bench_calls.proofs.Unique as unique
use Rattle.bench_calls.specs.contracts as own

-- ---- what a caller can pass: bytes, in runs that memory has room for
unfoldable pub are_bytes : List ℕ → Bool
are_bytes = every (λ x. ltb x 256)

unfoldable pub can_be_passed : List ℕ → List ℕ → Bool
can_be_passed file out = are_bytes file and are_bytes out and ltb (length file) (2 ^ 63) and ltb (length out) (2 ^ 63)

-- ---- the players
abbrev called : Ended
called = own.bench_play.ended

abbrev promised : Written called
promised M 𝓤 = own.bench_play.clauses

-- what can be passed, where alone a program can be tried
abbrev pub Tried : Inputs called
Tried κs a = can_be_passed a.0.now a.1.0.now ≡ true

-- any choice of a result and of the output's last bytes, for each input and wherever it lies, that meets the contract which `bench_play`
-- is written with, in every model of memory
abbrev pub Player : Type 2
Player = Meeting called promised Tried

bytes_at : (xs : List ℕ) → are_bytes xs ≡ true → (i : ℕ) → get_or xs i 0 < 256
unfolding are_bytes every
bytes_at [] e i = omega arith
bytes_at (x ∷ xs) e zero = ltb-true x 256 (and_left (ltb x 256) _ e)
bytes_at (x ∷ xs) e (suc i) = bytes_at xs (and_right (ltb x 256) _ e) i

-- the contract's bound is one for every file of bytes, whoever plays it
bounded : (file out : List ℕ) → can_be_passed file out ≡ true → length (played file) ≤ most_bytes
unfolding can_be_passed
bounded file out e = lines_within file (bytes_at file (and_left (are_bytes file) _ e))

-- there is one: the rules
pub the_rules : Player
the_rules =
    by_facts called _ (_ ∷ _ ∷ []) _ (λ κs a. (play_into a.0.now a.1.0.now).result)
    (λ κs a. (tt, ((play_into a.0.now a.1.0.now).output, tt)))
    (λ κs a p. (refl, (refl, bounded a.0.now a.1.0.now p)))

-- ---- a player at an input, which lies somewhere. The output has room for the lines: else there is nothing to read
pub record Input : Type 0 where
  pub file : List ℕ
  pub output : List ℕ
  pub passed : can_be_passed file output ≡ true
  pub fits : length (played file) ≤ length output

pub record Place : Type 0 where
  pub lifetimes : Lfts called.signature.lifetimes
  pub session_pointer : ℕ × ℕ
  pub output_pointer : ℕ × ℕ
  pub output_name : ℕ

abbrev lent : (p : Place) (x : Input) → Args called.signature p.lifetimes
lent p x = (
  record { ref_ptr = p.session_pointer; now = x.file },
  (record { ref_ptr = p.output_pointer; ghost_name = p.output_name; now = x.output }, tt),
)

abbrev pub result : Player → Place → Input → ℕ
result m p x = m.gives p.lifetimes (lent p x)

abbrev pub left : Player → Place → Input → List ℕ
left m p x = (m.leaves p.lifetimes (lent p x)).1.0

-- what a host reads: as many bytes as the result says, and their lines from 1
abbrev pub text : Player → Place → Input → List ℕ
text m p x = take (result m p x) (left m p x)

abbrev pub line : Player → Place → Input → ℕ → List ℕ
line m p x i = get_or (cut_lines (text m p x)) (i - 1) []

-- ---- each does as the rules do; numbers that are merely equal are equal
module _ (m : Player) (p : Place) (x : Input) where
  pub results_as : result m p x ≡ (play_into x.file x.output).result
  unfolding the_rules
  results_as =
      ∥∥₁_elim (agree unique.bench_play m the_rules p.lifetimes (lent p x) x.passed tt) (ℕ_set _ _) (λ h. h.0)

  pub leaves_as : left m p x ≡ (play_into x.file x.output).output
  unfolding the_rules
  leaves_as =
      ∥∥₁_elim (agree unique.bench_play m the_rules p.lifetimes (lent p x) x.passed tt) (is_set ℕ_set _ _)
      (λ h. ap (λ l. l.1.0) h.1)

  pub prints_as : text m p x ≡ played x.file
  unfolding play_into
  prints_as =
      let l = length (played x.file) in
      rw (results_as, leaves_as, le-leb l (length x.output) x.fits, take-append-le l (played x.file) _ (omega arith))
      (take-length (played x.file))

-- ---- sessions of records
unfoldable pub records_bytes : List Record → List ℕ
records_bytes [] = []
records_bytes (r ∷ rs) = record_bytes r ++ records_bytes rs

unfoldable pub session_of : List Record → List ℕ
session_of rs = file_version ∷ records_bytes rs

abbrev pub Holds : Input → List Record → Type 0
Holds x rs = x.file ≡ session_of rs

-- ---- the players that must be shut out
module _ (m : Player) (p : Place) where
  -- after a set-up it refuses every request, whatever it makes of the set-up
  abbrev pub RefusesAlways : Type 0
  RefusesAlways =
      (x : Input) (n mask c : ℕ) (r : Request) → Holds x (SetUp n mask c ∷ Asks r ∷ []) → (k : ℕ) × (line m p x 2 ≡ line_of 2 (refused k))

  -- each request after a set-up has a fixed line, whatever was set up; one text for all sessions is such a choice
  abbrev pub FixedReply : Type 0
  FixedReply =
      (reply : Request → List ℕ)
      × ((x : Input) (n mask c : ℕ) (r : Request) → Holds x (SetUp n mask c ∷ Asks r ∷ []) → line m p x 2 ≡ reply r)

  -- no request gives knower 0 a handle, or takes one away: what parse says of a handle after it is what parse says without it. A host
  -- reads of no other knower's handles
  abbrev pub GrantsNothing : Type 0
  GrantsNothing =
      (x y : Input) (n mask c : ℕ) (r : Request) (h : ℕ) (a : List ℕ)
      → Holds x (SetUp n mask c ∷ Asks (Parse h) ∷ [])
      → Holds y (SetUp n mask c ∷ Asks r ∷ Asks (Parse h) ∷ [])
      → line m p x 2 ≡ line_of 2 a
      → line m p y 3 ≡ line_of 3 a

  -- it acts on the set-up, and what it says of the request after it repeats that
  abbrev pub EchoesSetUp : Type 0
  EchoesSetUp =
      (x : Input) (n mask c : ℕ) (r : Request) (a : List ℕ)
      → Holds x (SetUp n mask c ∷ Asks r ∷ [])
      → line m p x 1 ≡ line_of 1 a
      → line m p x 2 ≡ line_of 2 a

  -- it acts on a first request, and what it says of the second repeats that
  abbrev pub EchoesLater : Type 0
  EchoesLater =
      (x : Input) (n mask c : ℕ) (r s : Request) (a : List ℕ)
      → Holds x (SetUp n mask c ∷ Asks r ∷ Asks s ∷ [])
      → line m p x 2 ≡ line_of 2 a
      → line m p x 3 ≡ line_of 3 a

  -- somewhere the first line says `ready` with a number that isn't two for each participant of the file's set-up
  abbrev pub InventsCount : Type 0
  InventsCount =
      (x : Input) × (n : ℕ) × (mask : ℕ) × (c : ℕ) × (more : List Item) × (u : ℕ)
      × (items_of x.file ≡ item (SetUp n mask c) ∷ more) × (line m p x 1 ≡ line_of 1 (ready u)) × (u ≡ 2 * n → ⊥)

  -- whatever is played, no line says that a participant accepts another
  abbrev pub NeverAccepts : Type 0
  NeverAccepts = (x : Input) (i v u : ℕ) → line m p x i ≡ line_of i (accepted v u) → ⊥

-- ---- what the rules print, computed
abbrev room : List ℕ
room = replicate 128 0

record Shown (rs : List Record) (answers : List (List ℕ)) : Type 0 where
  passed : can_be_passed (session_of rs) room ≡ true
  prints : played (session_of rs) ≡ lines_from 1 answers
  short : leb (length (lines_from 1 answers)) 128 ≡ true
  cut : cut_lines (lines_from 1 answers) ≡ numbered 1 answers

starts : Shown (SetUp 2 3 16 ∷ Asks (Start 1 2) ∷ []) (ready 4 ∷ sent 1 2 3 ∷ [])
unfolding everything can_be_passed are_bytes records_bytes session_of
starts = record { passed = refl; prints = refl; short = refl; cut = refl }

-- where 2 isn't honest knower 0 has a handle more
starts_otherwise : Shown (SetUp 2 1 16 ∷ Asks (Start 1 2) ∷ []) (ready 4 ∷ sent 1 2 4 ∷ [])
unfolding everything can_be_passed are_bytes records_bytes session_of
starts_otherwise = record { passed = refl; prints = refl; short = refl; cut = refl }

parses_nothing : Shown (SetUp 2 3 16 ∷ Asks (Parse 3) ∷ []) (ready 4 ∷ refused 5 ∷ [])
unfolding everything can_be_passed are_bytes records_bytes session_of
parses_nothing = record { passed = refl; prints = refl; short = refl; cut = refl }

parses_sent : Shown (SetUp 2 3 16 ∷ Asks (Start 1 2) ∷ Asks (Parse 3) ∷ []) (ready 4 ∷ sent 1 2 3 ∷ parsed 3 1 30 ∷ [])
unfolding everything can_be_passed are_bytes records_bytes session_of
parses_sent = record { passed = refl; prints = refl; short = refl; cut = refl }

starts_again : Shown (SetUp 2 3 16 ∷ Asks (Start 1 2) ∷ Asks (Start 1 2) ∷ []) (ready 4 ∷ sent 1 2 3 ∷ sent 1 2 4 ∷ [])
unfolding everything can_be_passed are_bytes records_bytes session_of
starts_again = record { passed = refl; prints = refl; short = refl; cut = refl }

-- the paper's case 11
accepts :
    Shown (SetUp 3 3 64 ∷ Asks (Start 1 2) ∷ Asks (Deliver 1 2 5) ∷ Asks (Deliver 2 1 6) ∷ Asks (Deliver 1 2 7) ∷ [])
    (ready 6 ∷ sent 1 2 5 ∷ sent 2 1 6 ∷ sent 1 2 7 ∷ accepted 2 1 ∷ [])
unfolding everything can_be_passed are_bytes records_bytes session_of
accepts = record { passed = refl; prints = refl; short = refl; cut = refl }

-- ---- none of them meets the contract: one byte of a line shows it, a word's first letter or the digit of a handle
module _ {rs : List Record} {answers : List (List ℕ)} (s : Shown rs answers) where
  is_short : length (played (session_of rs)) ≤ 128
  is_short = rw s.prints (leb-true (length (lines_from 1 answers)) 128 s.short)

  abbrev shown : Input
  shown = record { file = session_of rs; output = room; passed = s.passed; fits = is_short }

module _ (m : Player) (p : Place) where
  line_at : {rs : List Record} {answers : List (List ℕ)} (s : Shown rs answers) (i : ℕ)
      → line m p (shown s) i ≡ get_or (numbered 1 answers) (i - 1) []
  line_at s i =
      ap (λ (ls : List (List ℕ)). get_or ls (i - 1) []) (ap cut_lines (prints_as m p (shown s) ∙ s.prints) ∙ s.cut)

  pub refuses_always : RefusesAlways m p → ⊥
  unfolding line_of decimal digits word_of ascii
  refuses_always h =
      let r = h (shown starts) 2 3 16 (Start 1 2) refl in
      eqb-false 115 114 refl (ap (λ (l : List ℕ). get_or l 2 0) (sym (line_at starts 2) ∙ r.1))

  pub fixed_reply : FixedReply m p → ⊥
  unfolding everything
  fixed_reply h =
      let q : line m p (shown starts) 2 ≡ line m p (shown starts_otherwise) 2 =
      h.1 (shown starts) 2 3 16 (Start 1 2) refl ∙ sym (h.1 (shown starts_otherwise) 2 1 16 (Start 1 2) refl) in
      eqb-false 51 52 refl (ap (λ (l : List ℕ). get_or l 11 0) (sym (line_at starts 2) ∙ q ∙ line_at starts_otherwise 2))

  pub grants_nothing : GrantsNothing m p → ⊥
  unfolding line_of decimal digits word_of ascii
  grants_nothing h =
      let q = h (shown parses_nothing) (shown parses_sent) 2 3 16 (Start 1 2) 3 (refused 5) refl refl (line_at parses_nothing 2) in
      eqb-false 112 114 refl (ap (λ (l : List ℕ). get_or l 2 0) (sym (line_at parses_sent 3) ∙ q))

  pub echoes_set_up : EchoesSetUp m p → ⊥
  unfolding line_of decimal digits word_of ascii
  echoes_set_up h =
      let q = h (shown starts) 2 3 16 (Start 1 2) (ready 4) refl (line_at starts 1) in
      eqb-false 115 114 refl (ap (λ (l : List ℕ). get_or l 2 0) (sym (line_at starts 2) ∙ q))

  pub echoes_later : EchoesLater m p → ⊥
  unfolding line_of decimal digits word_of ascii spaced
  echoes_later h =
      let q = h (shown starts_again) 2 3 16 (Start 1 2) (Start 1 2) (sent 1 2 3) refl (line_at starts_again 2) in
      eqb-false 52 51 refl (ap (λ (l : List ℕ). get_or l 11 0) (sym (line_at starts_again 3) ∙ q))

  pub invents_count : InventsCount m p → ⊥
  invents_count (x, n, mask, c, more, u, q, e, h) =
      h (ready_line n mask c u x.file q (ap (λ (t : List ℕ). get_or (cut_lines t) 0 []) (sym (prints_as m p x)) ∙ e))

  pub never_accepts : NeverAccepts m p → ⊥
  never_accepts h = h (shown accepts) 5 2 1 (line_at accepts 5)
