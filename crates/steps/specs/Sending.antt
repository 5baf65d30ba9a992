-- What is made on the way, and what it is refused for, as the code hands it on (rules N2 and R3).
use Rattle.std.specs.Prelude.{ℕ, Bool, true, false, List, [], ◌∷◌, Result, Ok, Err}
use Rattle.rules.specs.Table.{Table}
use Rattle.rules.specs.Terms.{new_entry, add_entry}
use Rattle.rules.specs.Steps.{Made}
use Rattle.rules.specs.declared.Refusal.{Refusal}

-- an entry that stands in the table
abbrev pub made_at : ℕ → Table → Made
made_at e t = record { entry = e; table = t }

-- the entry that a search found, or a new one of these seven numbers where it found nothing
unfoldable pub add_unless : List ℕ → Table → List ℕ → Made
add_unless [] t ns = made_at (new_entry t) (add_entry t ns)
add_unless (e ∷ more) t ns = made_at e t

-- new entries pass or are refused, by whether they are short enough and whether they have room
abbrev pub refusal_for : Bool → Bool → Result (Unit {0}) Refusal
refusal_for false room = Err (record { 0 = 9 })
refusal_for true false = Err (record { 0 = 10 })
refusal_for true true = Ok tt
