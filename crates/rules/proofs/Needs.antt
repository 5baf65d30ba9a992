-- A test in front of a command: where it passes the rest stands, where it fails there is a refusal on the table as it was. So what
-- holds of every refusal, and of the rest where the tests pass, holds of the command. Assumes nothing.
use Prim.Native.Nat.{ℕ, ◌+◌, ◌-◌, ◌≤◌}
use mathlib.Core.Path.{◌≡◌, refl, sym, ap, ◌∙◌}
use mathlib.Core.Bool.{Bool, true, false}
use mathlib.Core.List.{List, ◌++◌}
use lib.Dec.{leb}
use lib.ListN.{length, length-append}
use native.Mathlib.Omega.{arith}
use native.Mathlib.Decide.{ℕ_discrete}
use borrow.Author.Tests.{leb-true, le-leb, eq-eqb, ne_eqb}
use Rattle.rules.specs.Choice.{every}
use Rattle.rules.specs.Table.{Table, used, capacity}
use Rattle.rules.specs.Terms.{datum_length, find_datum}
use Rattle.rules.specs.Outcome.{Outcome, gives, refused, need, is_short, need_room}
use Rattle.rules.specs.Steps.{unless_found, sealed_lengths, named_lengths}

-- ---- outcomes that are the same, by their halves
pub halves : {o o' : Outcome} → o ≡ o' → (o.answer ≡ o'.answer) × (o.table ≡ o'.table)
halves q = (ap (λ (x : Outcome). x.answer) q, ap (λ (x : Outcome). x.table) q)

-- an outcome that was met, by another name
pub ends : {o o' : Outcome} {a : List ℕ} {s : Table} → o' ≡ o → (a ≡ o.answer) × (s ≡ o.table) → (a ≡ o'.answer) × (s ≡ o'.table)
ends q p = (p.0 ∙ sym (halves q).0, p.1 ∙ sym (halves q).1)

-- ---- a test
pub by_need {ℓ} : (P : Outcome → Type ℓ) (b : Bool) (n : ℕ) (t : Table) (rest : Outcome) → (b ≡ true → P rest) → P (gives (refused n) t)
    → P (need b n t rest)
unfolding need
by_need P true n t rest p q = p refl
by_need P false n t rest p q = q

pub need_goes : {b : Bool} (n : ℕ) (t : Table) (rest : Outcome) → b ≡ true → need b n t rest ≡ rest
unfolding need
need_goes n t rest p = rw p refl

-- ---- room
pub by_room {ℓ} : (P : Outcome → Type ℓ) (t : Table) (lengths : List ℕ) (rest : Outcome)
    → (every is_short lengths ≡ true → length lengths ≤ capacity t - used t → P rest) → ((n : ℕ) → P (gives (refused n) t))
    → P (need_room t lengths rest)
unfolding need_room
by_room P t lengths rest p q =
    by_need P (every is_short lengths) 9 t _
    (λ a. by_need P (leb (length lengths) (capacity t - used t)) 10 t rest (λ b. p a (leb-true (length lengths) (capacity t - used t) b)) (q 10))
    (q 9)

pub room_goes : (t : Table) (lengths : List ℕ) (rest : Outcome) → every is_short lengths ≡ true → length lengths ≤ capacity t - used t
    → need_room t lengths rest ≡ rest
unfolding need_room need
room_goes t lengths rest a b = rw (a, le-leb (length lengths) (capacity t - used t) b) refl

-- ---- how many entries a step asks room for
pub unless_none : (found l : ℕ) → found ≡ 0 → length (unless_found found l) ≡ 1
unfolding unless_found
unless_none found l h = rw (eq-eqb found 0 h) refl

pub unless_some : (found l : ℕ) → (found ≡ 0 → ⊥) → length (unless_found found l) ≡ 0
unfolding unless_found
unless_some found l h = rw (ne_eqb found 0 h) refl

pub unless_few : (found l : ℕ) → length (unless_found found l) ≤ 1
unless_few found l = go (ℕ_discrete found 0)
  where
    go : Dec (found ≡ 0) → length (unless_found found l) ≤ 1
    go (yes q) = omega (arith, unless_none found l q)
    go (no q) = omega (arith, unless_some found l q)

-- a message with a name: nonce, list, ciphertext and outer list, and the name where it isn't there
pub named_count : (t : Table) (p : ℕ) (repeated : List ℕ) → length (named_lengths t p repeated) ≡ 4 + length (unless_found (find_datum t p) datum_length)
unfolding named_lengths sealed_lengths
named_count t p repeated = rw length-append (omega arith)

-- a list alone: ciphertext and outer list, and the list where it isn't there
pub alone_count : (found l : ℕ) → length (unless_found found l ++ sealed_lengths l) ≡ 2 + length (unless_found found l)
unfolding sealed_lengths
alone_count found l = rw length-append (omega arith)
