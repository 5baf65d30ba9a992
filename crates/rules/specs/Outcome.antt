-- Answers in numbers, refusals, and what a command gives: an answer and the table that it leaves (rules R1 to R3).
use Rattle.std.specs.Prelude.{ℕ, ◌-◌, Bool, List, [], ◌∷◌, leb, length, if◌then◌else◌}
use Rattle.rules.specs.Choice.{every}
use Rattle.rules.specs.Table.{Table, used, capacity, handle}
use Rattle.rules.specs.Terms.{longest}
use Rattle.rules.specs.Handles.{grant}

-- ---- R1: an answer is the number of its word, in the order of rule P2, and its values
abbrev pub ready : ℕ → List ℕ
ready u = 1 ∷ u ∷ []

abbrev pub sent : ℕ → ℕ → ℕ → List ℕ
sent p q h = 2 ∷ p ∷ q ∷ h ∷ []

abbrev pub accepted : ℕ → ℕ → List ℕ
accepted p q = 3 ∷ p ∷ q ∷ []

abbrev pub dropped : List ℕ
dropped = 4 ∷ []

-- R1: the answer whose word is `handle`
abbrev pub handed : ℕ → List ℕ
handed h = 5 ∷ h ∷ []

abbrev pub parsed : ℕ → ℕ → ℕ → List ℕ
parsed y v l = 6 ∷ y ∷ v ∷ l ∷ []

abbrev pub refused : ℕ → List ℕ
refused n = 7 ∷ n ∷ []

-- ---- R2: what a command gives
pub record Outcome : Type 0 where
  pub answer : List ℕ
  pub table : Table

abbrev pub gives : List ℕ → Table → Outcome
gives a t = record { answer = a; table = t }

-- R2: the rest if the test passes, else refusal n with the table as it was
unfoldable pub need : Bool → ℕ → Table → Outcome → Outcome
need test n t rest = if test then rest else gives (refused n) t

-- ---- R3: room for new entries
unfoldable pub is_short : ℕ → Bool
is_short l = leb l longest

-- R3: the new entries, given by their lengths, are short enough, else 9, and have room, else 10
unfoldable pub need_room : Table → List ℕ → Outcome → Outcome
need_room t lengths rest =
    need (every is_short lengths) 9 t
    (need (leb (length lengths) (capacity t - used t)) 10 t rest)

-- R2: the entry is granted to knower 0, and its handle there is the answer
unfoldable pub gives_handle : Table → ℕ → Outcome
gives_handle t e =
    let g = grant t 0 e in
    gives (handed (handle g 0 e)) g
