-- What the values of the code's types mean, in the machine's own numbers (rule R1). Every promise about an enum is said through these.
use Rattle.std.specs.Prelude.{ℕ, List, [], ◌∷◌, ◌≡◌, Option, Some, None, Result, Ok, Err, MatchResult, eqb, get_or, if◌then◌else◌}
use Rattle.rules.specs.Outcome.{ready, sent, accepted, dropped, handed, parsed, refused}
use Rattle.rules.specs.Terms.{data_type, nonce_type, list_type, ciphertext_type, secret_key_type, public_key_type}
use Rattle.rules.specs.Machine.{Record, SetUp, Asks, Start, Deliver, Store, Nonce, MakeList, Project, Encrypt, Decrypt, Parse}
use Rattle.rules.specs.declared.Handle.{Handle}
use Rattle.rules.specs.declared.Entry.{Entry}
use Rattle.rules.specs.declared.Kind.{Kind}
use Rattle.rules.specs.declared.Kind.TheVariants.{Data, Nonce as Nonceᵏ, List as Listᵏ, Ciphertext, SecretKey, PublicKey}
use Rattle.rules.specs.declared.NoKind.{NoKind}
use Rattle.rules.specs.declared.Refusal.{Refusal}
use Rattle.rules.specs.declared.Reply.{Reply}
use Rattle.rules.specs.declared.Reply.TheVariants.{Ready, Sent, Accepted, Dropped, Handle as Handed, Parsed}
use Rattle.rules.specs.declared.Command.{Command}
use Rattle.rules.specs.declared.Command.TheVariants.{SetUp as SetUpᶜ, Start as Startᶜ, Deliver as Deliverᶜ, Store as Storeᶜ, Nonce as Nonceᶜ, List as Listᶜ, Project as Projectᶜ, Encrypt as Encryptᶜ, Decrypt as Decryptᶜ, Parse as Parseᶜ}

-- T5: the number of a type
abbrev pub number_of : Kind → ℕ
number_of Data = data_type
number_of Nonceᵏ = nonce_type
number_of Listᵏ = list_type
number_of Ciphertext = ciphertext_type
number_of SecretKey = secret_key_type
number_of PublicKey = public_key_type

-- what a number names: the type that has it, or none
abbrev pub Names : ℕ → Result Kind NoKind → Type 0
Names n r = MatchResult r (λ kind. number_of kind ≡ n) (λ _. (kind : Kind) → number_of kind ≡ n → ⊥)

-- an answer: the number of its word and its values
unfoldable pub said : Result Reply Refusal → List ℕ
said (Ok (Ready u)) = ready u
said (Ok (Sent p q h)) = sent p q h.0
said (Ok (Accepted p q)) = accepted p q
said (Ok Dropped) = dropped
said (Ok (Handed h)) = handed h.0
said (Ok (Parsed y v l)) = parsed y v l
said (Err r) = refused r.0

-- what a search gives: the entry's number, or nothing
unfoldable pub found_at : Option Entry → List ℕ
found_at (Some e) = e.0 ∷ []
found_at None = []

-- the rules' searches give 0 for none; entries count from 1
unfoldable pub or_nothing : ℕ → List ℕ
or_nothing e = if eqb e 0 then [] else e ∷ []

-- number i of a list's four handles, from 0
unfoldable pub beside_at : List Handle → ℕ → ℕ
beside_at hs i = (get_or hs i (record { 0 = 0 })).0

-- a command
unfoldable pub asked : Command → Record
asked (SetUpᶜ n m c) = SetUp n m c
asked (Startᶜ u v) = Asks (Start u v)
asked (Deliverᶜ s r h) = Asks (Deliver s r h.0)
asked (Storeᶜ d) = Asks (Store d)
asked Nonceᶜ = Asks Nonce
asked (Listᶜ k hs) = Asks (MakeList k (beside_at hs 0) (beside_at hs 1) (beside_at hs 2) (beside_at hs 3))
asked (Projectᶜ h i) = Asks (Project h.0 i)
asked (Encryptᶜ k l) = Asks (Encrypt k.0 l.0)
asked (Decryptᶜ k c) = Asks (Decrypt k.0 c.0)
asked (Parseᶜ h) = Asks (Parse h.0)
