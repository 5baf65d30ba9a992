-- Machines that must be shut out: nothing that meets the contract of `perform` is one of them. True since the contract leaves no choice and
-- the rules meet it, so that whatever meets it answers and leaves what the rules do, which small tables show. Assumes nothing.
use Rattle.std.specs.Prelude.{Result, Ok, Err, if◌then◌else◌}
use Prim.Native.Nat.{ℕ, ◌+◌, ◌-◌, ◌*◌, ◌^◌, ◌≤◌}
use native.Mathlib.Nat.{ℕ_set}
use mathlib.Core.Path.{◌≡◌, refl, sym, ap, ◌∙◌}
use mathlib.Core.Logic.{∥∥₁_elim}
use mathlib.Core.Bool.{Bool, true, false, not}
use mathlib.Core.List.{List, [], ◌∷◌, is_set}
use lib.Dec.{eqb, leb, ltb}
use lib.ListN.{length, get_or, replicate}
use contract.Lifetimes.{Lfts}
use denote.Triple.Entry.{Args}
use denote.Triple.Clauses.{Ended}
use borrow.Author.Tests.{eqb-false, not-true}
use Rattle.tight.specs.Tight.{Written}
use Rattle.tight.specs.Meeting.{Inputs, Meeting, by_facts, agree}
use Rattle.rules.specs.Choice.{◌and◌, every}
use Rattle.rules.specs.Table.{Table, this_version, most_of, most, words_for, largest, participants, used, handle, every_knower}
use Rattle.rules.specs.Outcome.{sent, accepted}
use Rattle.rules.specs.Machine.{Request, Record, Asks, perform}
use Rattle.rules.specs.Meaning.{said, asked}
use Rattle.rules.specs.Open.{everything}
use Rattle.rules.specs.declared.Refusal.{Refusal}
use Rattle.rules.specs.declared.Reply.{Reply}
use Rattle.rules.specs.declared.Reply.TheVariants.{Ready, Accepted}
use Rattle.rules.specs.declared.Command.{Command}
use Rattle.rules.specs.declared.Command.TheVariants.{SetUp, Start, Deliver, Store, Nonce, List as MakeList, Project, Encrypt, Decrypt, Parse}
use Rattle.rules.proofs.Logic.{and_left, and_right}
use Rattle.rules.proofs.Formed.{knower_at}
use Rattle.rules.proofs.Meaning.{unsaid, said_injective}
use Rattle.rules.proofs.Answers.{answer_said}
use Rattle.rules.proofs.Ready.{ready_counts}
use Rattle.beside.specs.Beside.{numbers_beside}
use Rattle.machine.proofs.Unique as unique
use Rattle.machine.specs.contracts as own

-- ---- what a caller can pass: numbers of 16 bits, four handles in a list, and a run that memory has room for
unfoldable pub command_numbers : Command → List ℕ
command_numbers (SetUp n m c) = n ∷ m ∷ c ∷ []
command_numbers (Start u v) = u ∷ v ∷ []
command_numbers (Deliver s r h) = s ∷ r ∷ h.0 ∷ []
command_numbers (Store d) = d ∷ []
command_numbers Nonce = []
command_numbers (MakeList k hs) = k ∷ numbers_beside hs
command_numbers (Project h i) = h.0 ∷ i ∷ []
command_numbers (Encrypt k l) = k.0 ∷ l.0 ∷ []
command_numbers (Decrypt k c) = k.0 ∷ c.0 ∷ []
command_numbers (Parse h) = h.0 ∷ []

unfoldable pub are_words : List ℕ → Bool
are_words = every (λ x. leb x largest)

unfoldable pub has_four : Command → Bool
has_four (SetUp n m c) = true
has_four (Start u v) = true
has_four (Deliver s r h) = true
has_four (Store d) = true
has_four Nonce = true
has_four (MakeList k hs) = eqb (length hs) 4
has_four (Project h i) = true
has_four (Encrypt k l) = true
has_four (Decrypt k c) = true
has_four (Parse h) = true

unfoldable pub can_be_passed : Command → Table → Bool
can_be_passed c t = are_words (command_numbers c) and has_four c and are_words t and ltb (2 * length t) (2 ^ 63)

-- ---- the machines
abbrev called : Ended
called = own.perform.ended

abbrev promised : Written called
promised M 𝓤 = own.perform.clauses

-- what can be passed, where alone a program can be tried
abbrev pub Tried : Inputs called
Tried κs a = can_be_passed a.1.0 a.0.now ≡ true

-- any choice of an answer and of the run's last numbers, for each input and wherever the run lies, that meets the contract which `perform`
-- is written with, in every model of memory
abbrev pub Machine : Type 2
Machine = Meeting called promised Tried

-- there is one: the rules
pub the_rules : Machine
the_rules =
    by_facts called _ (_ ∷ []) _ (λ κs a. unsaid (perform (asked a.1.0) a.0.now).answer)
    (λ κs a. ((perform (asked a.1.0) a.0.now).table, (tt, tt)))
    (λ κs a p. (answer_said (asked a.1.0) a.0.now, refl))

-- ---- a machine at an input, the run lying somewhere
pub record Input : Type 0 where
  pub command : Command
  pub run : Table
  pub passed : can_be_passed command run ≡ true

pub record Place : Type 0 where
  pub lifetimes : Lfts 1
  pub pointer : ℕ × ℕ
  pub name : ℕ

abbrev lent : (p : Place) (x : Input) → Args called.signature p.lifetimes
lent p x = (record { ref_ptr = p.pointer; ghost_name = p.name; now = x.run }, (x.command, tt))

abbrev asks : Input → Record
asks x = asked x.command

-- its command isn't a set-up
abbrev pub IsRequest : Input → Type 0
IsRequest x = (r : Request) × (asks x ≡ Asks r)

abbrev pub answer : Machine → Place → Input → Result Reply Refusal
answer m p x = m.gives p.lifetimes (lent p x)

abbrev pub left : Machine → Place → Input → Table
left m p x = (m.leaves p.lifetimes (lent p x)).0

-- ---- each does as the rules do; numbers that are merely equal are equal
module _ (m : Machine) (p : Place) (x : Input) where
  pub answers_as : said (answer m p x) ≡ (perform (asks x) x.run).answer
  unfolding the_rules
  answers_as =
      ∥∥₁_elim (agree unique.perform m the_rules p.lifetimes (lent p x) x.passed tt) (is_set ℕ_set _ _)
      (λ h. ap said h.0 ∙ answer_said (asks x) x.run)

  pub leaves_as : left m p x ≡ (perform (asks x) x.run).table
  unfolding the_rules
  leaves_as = ∥∥₁_elim (agree unique.perform m the_rules p.lifetimes (lent p x) x.passed tt) (is_set ℕ_set _ _) (λ h. ap (λ l. l.0) h.1)

-- ---- the machines that must be shut out
module _ (m : Machine) (p : Place) where
  -- it refuses every request, whatever it makes of a set-up
  abbrev pub RefusesAlways : Type 0
  RefusesAlways = (x : Input) → IsRequest x → (n : ℕ) × (answer m p x ≡ Err (record { 0 = n }))

  -- each request has a fixed reply, whatever the table; one reply to all of them is such a choice
  abbrev pub FixedReply : Type 0
  FixedReply = (reply : Command → Result Reply Refusal) × ((x : Input) → IsRequest x → answer m p x ≡ reply x.command)

  -- no request gives this knower a handle, or takes one away
  abbrev pub GrantsNothingTo : ℕ → Type 0
  GrantsNothingTo k = (x : Input) → IsRequest x → (e : ℕ) → handle (left m p x) k e ≡ handle x.run k e

  -- of two requests in turn the second leaves the table as the first left it, whatever it answers
  abbrev pub EchoesLater : Type 0
  EchoesLater = (x y : Input) → IsRequest x → IsRequest y → y.run ≡ left m p x → left m p y ≡ left m p x

  -- somewhere it answers `ready` with a number that isn't that of the used entries in the table it leaves, or isn't two for each participant
  abbrev pub InventsCount : Type 0
  InventsCount =
      (x : Input) × (u : ℕ) × (answer m p x ≡ Ok (Ready u)) × ((used (left m p x) ≡ u) × (2 * participants (left m p x) ≡ u) → ⊥)

  -- whatever is asked, no participant accepts another
  abbrev pub NeverAccepts : Type 0
  NeverAccepts = (x : Input) (v u : ℕ) → answer m p x ≡ Ok (Accepted v u) → ⊥

-- ---- what the rules give, computed
abbrev after : Command → Table → Table
after c t = (perform (asked c) t).table

record Shown (c : Command) (t : Table) (a : List ℕ) : Type 0 where
  passed : can_be_passed c t ≡ true
  answers : (perform (asked c) t).answer ≡ a

-- two honest participants: after set-up, after a start, and further up to an acceptance
keys : Table
keys = after (SetUp 2 3 17) (replicate (words_for this_version 17) 0)

started : Table
started = after (Start 1 2) keys

confirmed : Table
confirmed = after (Deliver 2 1 (record { 0 = 4 })) (after (Deliver 1 2 (record { 0 = 3 })) started)

starts : Shown (Start 1 2) keys (sent 1 2 3)
unfolding everything can_be_passed command_numbers has_four are_words keys
starts = record { passed = refl; answers = refl }

starts_again : Shown (Start 1 2) started (sent 1 2 4)
unfolding everything can_be_passed command_numbers has_four are_words keys started
starts_again = record { passed = refl; answers = refl }

accepts : Shown (Deliver 1 2 (record { 0 = 5 })) confirmed (accepted 2 1)
unfolding everything can_be_passed command_numbers has_four are_words keys started confirmed
accepts = record { passed = refl; answers = refl }

uses_more : eqb (used (after (Start 1 2) started)) (used started) ≡ false
unfolding everything keys started
uses_more = refl

-- every participant there can be, all honest: a start grants its last entry to who starts and to knower 0
last : ℕ
last = 2 * most_of this_version + 5

everyone : Table
everyone = after (SetUp (most_of this_version) (2 ^ most_of this_version - 1) last) (replicate (words_for this_version last) 0)

start_of : ℕ → Command
start_of k = Start (if eqb k 0 then 1 else k) (if eqb k 2 then 1 else 2)

is_granted : ℕ → Bool
is_granted k = can_be_passed (start_of k) everyone and not (eqb (handle (after (start_of k) everyone) k last) (handle everyone k last))

all_granted : every_knower everyone is_granted ≡ true
unfolding everything can_be_passed command_numbers has_four are_words last everyone start_of is_granted
all_granted = refl

-- ---- none of them meets the contract
abbrev shown : {c : Command} {t : Table} {a : List ℕ} → Shown c t a → Input
shown {c} {t} s = record { command = c; run = t; passed = s.passed }

module _ (m : Machine) (p : Place) where
  answer_at : {c : Command} {t : Table} {a : List ℕ} (s : Shown c t a) → said (answer m p (shown s)) ≡ a
  answer_at s = answers_as m p (shown s) ∙ s.answers

  pub refuses_always : RefusesAlways m p → ⊥
  unfolding asked said
  refuses_always h =
      let r = h (shown starts) (_, refl) in
      eqb-false 2 7 refl (ap (λ (a : List ℕ). get_or a 0 0) (sym (answer_at starts) ∙ ap said r.1))

  pub fixed_reply : FixedReply m p → ⊥
  unfolding asked
  fixed_reply h =
      let q : answer m p (shown starts) ≡ answer m p (shown starts_again) = h.1 (shown starts) (_, refl) ∙ sym (h.1 (shown starts_again) (_, refl)) in
      eqb-false 3 4 refl (ap (λ (a : List ℕ). get_or a 3 0) (sym (answer_at starts) ∙ ap said q ∙ answer_at starts_again))

  -- for each knower that there can be
  pub grants_nothing : (k : ℕ) → k ≤ most_of this_version → GrantsNothingTo m p k → ⊥
  unfolding asked is_granted start_of most most_of
  grants_nothing k l h =
      let g = knower_at everyone is_granted all_granted k l in
      let x : Input = record { command = start_of k; run = everyone; passed = and_left _ _ g } in
      eqb-false _ _ (not-true _ (and_right (can_be_passed (start_of k) everyone) _ g))
      (ap (λ (t : Table). handle t k last) (sym (leaves_as m p x)) ∙ h x (_, refl) last)

  pub echoes_later : EchoesLater m p → ⊥
  unfolding asked started
  echoes_later h =
      let q : left m p (shown starts) ≡ started = leaves_as m p (shown starts) in
      eqb-false _ _ uses_more
      (ap (λ (t : Table). used t) (sym (leaves_as m p (shown starts_again)) ∙ h (shown starts) (shown starts_again) (_, refl) (_, refl) (sym q) ∙ q))

  pub invents_count : InventsCount m p → ⊥
  unfolding said
  invents_count (x, u, q, h) =
      h (rw (leaves_as m p x) (ready_counts (asks x) x.run u (sym (answers_as m p x) ∙ ap said q)))

  pub never_accepts : NeverAccepts m p → ⊥
  unfolding said
  never_accepts h = h (shown accepts) 2 1 (said_injective _ _ (answer_at accepts))
