-- What the values of the reader's and the writer's types mean in the rules' own words (rules F3, F4, F6).
use Rattle.std.specs.Prelude.{ℕ, List, [], ◌∷◌, Option, Some, None, Result, Ok, Err, get_or}
use Rattle.rules.specs.Machine.{Record, SetUp, Asks, Start, Deliver, Store, Nonce, MakeList, Project, Encrypt, Decrypt, Parse}
use Rattle.rules.specs.Session.{Reading, found, malformed, ended, Written as Wrote, bytes, refusal}
use Rattle.rules.specs.Meaning.{asked}
use Rattle.rules.specs.declared.Handle.{Handle}
use Rattle.rules.specs.declared.Refusal.{Refusal}
use Rattle.rules.specs.declared.Command.{Command}
use Rattle.rules.specs.declared.Command.TheVariants.{SetUp as SetUpᶜ, Start as Startᶜ, Deliver as Deliverᶜ, Store as Storeᶜ, Nonce as Nonceᶜ, List as Listᶜ, Project as Projectᶜ, Encrypt as Encryptᶜ, Decrypt as Decryptᶜ, Parse as Parseᶜ}
use Rattle.session.specs.declared.Step.{Step}
use Rattle.session.specs.declared.Step.TheVariants.{Record as Recordˢ, End, Malformed}

-- F3: a kind's body lengths, as the rule lists them
unfoldable pub lengths_as : Option (ℕ × ℕ) → List ℕ
lengths_as (Some lengths) = lengths.0 ∷ lengths.1 ∷ []
lengths_as None = []

-- F4: what was read
unfoldable pub read_as : Step → Reading
read_as (Recordˢ c next) = found (asked c) next
read_as End = ended
read_as Malformed = malformed

-- F6: what the writer gives
unfoldable pub written_as : Result ℕ Refusal → Wrote
written_as (Ok n) = bytes n
written_as (Err r) = refusal r.0

-- ---- the four handles of a command
abbrev pub handle_of : ℕ → Handle
handle_of h = record { 0 = h }

unfoldable pub four_handles : ℕ → ℕ → ℕ → ℕ → List Handle
four_handles a b c d = handle_of a ∷ handle_of b ∷ handle_of c ∷ handle_of d ∷ []

-- those of a record: a list's own, zeros for any other
unfoldable pub beside_record : Record → List Handle
beside_record (SetUp n m c) = four_handles 0 0 0 0
beside_record (Asks (Start u v)) = four_handles 0 0 0 0
beside_record (Asks (Deliver s r h)) = four_handles 0 0 0 0
beside_record (Asks (Store d)) = four_handles 0 0 0 0
beside_record (Asks Nonce) = four_handles 0 0 0 0
beside_record (Asks (MakeList k a b c d)) = four_handles a b c d
beside_record (Asks (Project h i)) = four_handles 0 0 0 0
beside_record (Asks (Encrypt k l)) = four_handles 0 0 0 0
beside_record (Asks (Decrypt k c)) = four_handles 0 0 0 0
beside_record (Asks (Parse h)) = four_handles 0 0 0 0

-- those of what was read
unfoldable pub beside : Reading → List Handle
beside (found r next) = beside_record r
beside malformed = four_handles 0 0 0 0
beside ended = four_handles 0 0 0 0

-- those of a command, and of a step
unfoldable pub handles_beside : Command → List Handle
handles_beside (SetUpᶜ n m c) = four_handles 0 0 0 0
handles_beside (Startᶜ u v) = four_handles 0 0 0 0
handles_beside (Deliverᶜ s r h) = four_handles 0 0 0 0
handles_beside (Storeᶜ d) = four_handles 0 0 0 0
handles_beside Nonceᶜ = four_handles 0 0 0 0
handles_beside (Listᶜ k hs) = hs
handles_beside (Projectᶜ h i) = four_handles 0 0 0 0
handles_beside (Encryptᶜ k l) = four_handles 0 0 0 0
handles_beside (Decryptᶜ k c) = four_handles 0 0 0 0
handles_beside (Parseᶜ h) = four_handles 0 0 0 0

unfoldable pub handles_in : Step → List Handle
handles_in (Recordˢ c next) = handles_beside c
handles_in End = four_handles 0 0 0 0
handles_in Malformed = four_handles 0 0 0 0

-- F3: the command of a known kind with k numbers, of which the first four are a, b, c and d
unfoldable pub command_of : ℕ → ℕ → ℕ → ℕ → ℕ → ℕ → Command
command_of kind k a b c d =
    get_or
    (SetUpᶜ a b c
    ∷ Startᶜ a b
    ∷ Deliverᶜ a b (handle_of c)
    ∷ Storeᶜ a
    ∷ Nonceᶜ
    ∷ Listᶜ k (four_handles a b c d)
    ∷ Projectᶜ (handle_of a) b
    ∷ Encryptᶜ (handle_of a) (handle_of b)
    ∷ Decryptᶜ (handle_of a) (handle_of b)
    ∷ [])
    kind
    (Parseᶜ (handle_of a))

-- F6: how many numbers the record of a command has
unfoldable pub count_of : Command → ℕ
count_of (SetUpᶜ n m c) = 3
count_of (Startᶜ u v) = 2
count_of (Deliverᶜ s r h) = 3
count_of (Storeᶜ d) = 1
count_of Nonceᶜ = 0
count_of (Listᶜ k hs) = k
count_of (Projectᶜ h i) = 2
count_of (Encryptᶜ k l) = 2
count_of (Decryptᶜ k c) = 2
count_of (Parseᶜ h) = 1
