-- Who may act, and the ways that a delivery goes before anything is sent, in the facts that the code has there. Assumes nothing.
use Rattle.std.specs.Prelude.{Option, Some, None, Result, Ok, Err, if◌then◌else◌}
use Rattle.std.specs.Option.{ok_or}
use Prim.Native.Nat.{ℕ, ◌<◌}
use native.Mathlib.Omega.{arith}
use mathlib.Core.Path.{◌≡◌, refl, sym, ap}
use mathlib.Core.Bool.{Bool, true, false}
use mathlib.Core.List.{List, [], ◌∷◌}
use lib.Dec.{eqb, leb}
use lib.ListN.{length}
use borrow.Author.Tests.{eq-eqb, ne_eqb, leb-true}
use Rattle.rules.specs.Table.{Table, most, participants, type_at, is_participant}
use Rattle.rules.specs.Handles.{grant_each, entry_of, holds_handle}
use Rattle.rules.specs.Outcome.{gives, accepted, dropped, refused, need, need_room}
use Rattle.rules.specs.Steps.{Message, none, may_act, start, named_lengths, send_named, read_message, opened, answer_first, answer_second, answer_message, deliver_list, deliver}
use Rattle.rules.specs.Meaning.{found_at, or_nothing}
use Rattle.rules.specs.declared.Entry.{Entry}
use Rattle.rules.specs.declared.Refusal.{Refusal}
use Rattle.messages.specs.declared.Message.{Message as Messageᶜ}
use Rattle.messages.specs.declared.Message.TheVariants.{First, Second, Third}
use Rattle.messages.specs.Reading.{taken_for}
use Rattle.rules.proofs.Logic.{and_right, first_of}
use Rattle.rules.proofs.Words.{most_high}

-- a participant's key has a small number
pub participant_low : (t : Table) (p : ℕ) → is_participant t p ≡ true → p < 32768
unfolding is_participant
participant_low t p h =
    let q = and_right (leb p (participants t)) _ (and_right (leb 1 p) _ h) in
    omega (arith, leb-true p (most t) q, most_high t)

-- ---- a search's answer as a number
nothing_found : (e : ℕ) → [] ≡ or_nothing e → eqb e 0 ≡ true
unfolding or_nothing
nothing_found e h = go (eqb e 0) h
  where
    go : (b : Bool) → [] ≡ (if b then [] else e ∷ []) → b ≡ true
    go true q = refl
    go false q = absurd (omega (arith, ap length q))

something_found : (e l : ℕ) → l ∷ [] ≡ or_nothing e → (e ≡ l) × (eqb e 0 ≡ false)
unfolding or_nothing
something_found e l h = go (eqb e 0) h
  where
    go : (b : Bool) → l ∷ [] ≡ (if b then [] else e ∷ []) → (e ≡ l) × (b ≡ false)
    go true q = absurd (omega (arith, ap length q))
    go false q = (sym (first_of q), refl)

-- ---- start
pub start_not : (t : Table) (u v : ℕ) → may_act t u v ≡ false → start t u v ≡ gives (refused 3) t
unfolding start need
start_not t u v h = rw h refl

pub start_goes : (t : Table) (u v acting peer : ℕ) → (acting ≡ u) × (peer ≡ v) × (may_act t u v ≡ true)
    → need_room t (named_lengths t acting []) (send_named t acting peer [] []) ≡ start t u v
unfolding start need
start_goes t u v acting peer h = rw (h.0, h.1, h.2) refl

-- ---- deliver
-- what a search that must find gives
pub none_of : (o : Option Entry) (n e : Refusal) (r : Result Entry Refusal) → r ≡ ok_or o n → r ≡ Err e → (found_at o ≡ []) × (refused e.0 ≡ refused n.0)
unfolding found_at
none_of None n e r p q = let is : e ≡ n = cc in (refl, rw is refl)
none_of (Some x) n e r p q = absurd (cc)

pub some_of : (o : Option Entry) (n : Refusal) (l : Entry) (r : Result Entry Refusal) → r ≡ ok_or o n → r ≡ Ok l → found_at o ≡ l.0 ∷ []
unfolding found_at
some_of None n l r p q = absurd (cc)
some_of (Some x) n l r p q = let is : x ≡ l = cc in rw is refl

module _ (t : Table) (s r h : ℕ) where
  -- r may not act
  pub deliver_not : may_act t r s ≡ false → deliver t s r h ≡ gives (refused 3) t
  unfolding deliver need
  deliver_not a = rw a refl

  -- the adversary doesn't hold the handle
  pub deliver_unheld : may_act t r s ≡ true → [] ≡ or_nothing (entry_of t 0 h) → deliver t s r h ≡ gives (refused 5) t
  unfolding deliver need holds_handle
  deliver_unheld a b = rw (a, nothing_found (entry_of t 0 h) b) refl

  pub deliver_held : (l acting peer : ℕ) → (acting ≡ r) × (peer ≡ s) × (may_act t r s ≡ true) → l ∷ [] ≡ or_nothing (entry_of t 0 h)
      → deliver_list t peer acting l ≡ deliver t s r h
  unfolding deliver need holds_handle
  deliver_held l acting peer a b =
      let f = something_found (entry_of t 0 h) l b in
      rw (a.0, a.1, a.2, f.1, f.0) refl

-- ---- a list that is delivered
module _ (t : Table) (s r l : ℕ) where
  pub list_not : (type_at t l ≡ 3 → ⊥) → deliver_list t s r l ≡ gives (refused 6) t
  unfolding deliver_list need
  list_not d = rw (ne_eqb (type_at t l) 3 d) refl

  -- r takes it for m
  pub list_read : (m : Message) → type_at t l ≡ 3 → read_message t r s l ≡ m → answer_message t r s l m ≡ deliver_list t s r l
  unfolding deliver_list need
  list_read m d e = rw (eq-eqb (type_at t l) 3 d, e) refl

  pub list_none : type_at t l ≡ 3 → read_message t r s l ≡ none → gives dropped t ≡ deliver_list t s r l
  unfolding answer_message
  list_none d e = list_read none d e

-- ---- what r took a list for
module _ (t : Table) (r s l : ℕ) (known : List ℕ) (isOpened : known ≡ opened t l) (m : Messageᶜ) where
  pub answers_first : (x : Entry) → m ≡ First x
      → need_room t (named_lengths t r (x.0 ∷ [])) (send_named t r s known (x.0 ∷ [])) ≡ answer_message t r s l (taken_for m)
  unfolding answer_message answer_first taken_for
  answers_first x q = rw (isOpened, q) refl

  pub answers_second : (x : Entry) → m ≡ Second x → answer_second t r s known x.0 ≡ answer_message t r s l (taken_for m)
  unfolding answer_message taken_for
  answers_second x q = rw (isOpened, q) refl

  pub answers_third : (t' : Table) → m ≡ Third → t' ≡ grant_each t r known → gives (accepted r s) t' ≡ answer_message t r s l (taken_for m)
  unfolding answer_message taken_for
  answers_third t' q g = rw (g, isOpened, q) refl
