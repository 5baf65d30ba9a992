-- The definitions that give the code's enums their numbers tell their values apart: each has a way back. Assumes nothing.
use Rattle.std.specs.Prelude.{Option, Some, None, Result, Ok, Err, if◌then◌else◌}
use Prim.Native.Nat.{ℕ, ◌+◌, ◌-◌, ◌≤◌}
use native.Mathlib.Omega.{arith}
use mathlib.Core.Path.{◌≡◌, refl, sym, ap, ◌∙◌}
use mathlib.Core.Bool.{Bool, true}
use mathlib.Core.List.{List, [], ◌∷◌}
use lib.Dec.{eqb}
use lib.ListN.{length, get_or}
use borrow.Author.Tests.{ne_eqb}
use Rattle.rules.specs.Choice.{lowest}
use Rattle.rules.proofs.Walks.{lowest_found}
use Rattle.rules.specs.Machine.{Record, SetUp, Asks, Start, Deliver, Store, Nonce, MakeList, Project, Encrypt, Decrypt, Parse}
use Rattle.rules.specs.Meaning.{number_of, Names, said, found_at, or_nothing, beside_at, asked}
use Rattle.rules.specs.declared.Handle.{Handle}
use Rattle.rules.specs.declared.Entry.{Entry}
use Rattle.rules.specs.declared.Kind.{Kind}
use Rattle.rules.specs.declared.Kind.TheVariants.{Data, Nonce as Nonceᵏ, List as Listᵏ, Ciphertext, SecretKey, PublicKey}
use Rattle.rules.specs.declared.NoKind.{NoKind}
use Rattle.rules.specs.declared.Refusal.{Refusal}
use Rattle.rules.specs.declared.Reply.{Reply}
use Rattle.rules.specs.declared.Reply.TheVariants.{Ready, Sent, Accepted, Dropped, Handle as Handed, Parsed}
use Rattle.rules.specs.declared.Command.{Command}
use Rattle.rules.specs.declared.Command.TheVariants.{SetUp as SetUpᶜ, Start as Startᶜ, Deliver as Deliverᶜ, Store as Storeᶜ, Nonce as Nonceᶜ, List as Listᶜ, Project as Projectᶜ, Encrypt as Encryptᶜ, Decrypt as Decryptᶜ, Parse as Parseᶜ}

abbrev handle_of : ℕ → Handle
handle_of h = record { 0 = h }

-- ---- types of terms
-- the type of a number, Data where there is none
abbrev kind_from : ℕ → Kind
kind_from n = get_or (Data ∷ Nonceᵏ ∷ Listᵏ ∷ Ciphertext ∷ SecretKey ∷ PublicKey ∷ []) (n - 1) Data

kind_back : (k : Kind) → kind_from (number_of k) ≡ k
kind_back Data = refl
kind_back Nonceᵏ = refl
kind_back Listᵏ = refl
kind_back Ciphertext = refl
kind_back SecretKey = refl
kind_back PublicKey = refl

-- a number names one type, or none: `Kind::try_from` has no choice
pub named_once : (n : ℕ) (r s : Result Kind NoKind) → Names n r → Names n s → r ≡ s
named_once n (Ok a) (Ok b) p q = ap Ok (sym (kind_back a) ∙ ap kind_from (p ∙ sym q) ∙ kind_back b)
named_once n (Ok a) (Err e) p q = absurd (q a p)
named_once n (Err e) (Ok b) p q = absurd (p b q)
named_once n (Err e) (Err d) p q = refl

-- ---- answers
abbrev unsaid_by : ℕ → ℕ → ℕ → ℕ → Result Reply Refusal
unsaid_by n a b c =
    if eqb n 1 then Ok (Ready a) else
    if eqb n 2 then Ok (Sent a b (handle_of c)) else
    if eqb n 3 then Ok (Accepted a b) else
    if eqb n 4 then Ok Dropped else
    if eqb n 5 then Ok (Handed (handle_of a)) else
    if eqb n 6 then Ok (Parsed a b c) else Err (record { 0 = a })

abbrev pub unsaid : List ℕ → Result Reply Refusal
unsaid s = unsaid_by (get_or s 0 0) (get_or s 1 0) (get_or s 2 0) (get_or s 3 0)

pub said_back : (a : Result Reply Refusal) → unsaid (said a) ≡ a
unfolding said
said_back (Ok (Ready u)) = refl
said_back (Ok (Sent p q h)) = refl
said_back (Ok (Accepted p q)) = refl
said_back (Ok Dropped) = refl
said_back (Ok (Handed h)) = refl
said_back (Ok (Parsed y v l)) = refl
said_back (Err r) = refl

-- two answers that say the same are the same
pub said_injective : (a b : Result Reply Refusal) → said a ≡ said b → a ≡ b
said_injective a b q = sym (said_back a) ∙ ap unsaid q ∙ said_back b

-- ---- searches
abbrev pub unfound : List ℕ → Option Entry
unfound [] = None
unfound (e ∷ more) = Some (record { 0 = e })

pub found_back : (f : Option Entry) → unfound (found_at f) ≡ f
unfolding found_at
found_back (Some e) = refl
found_back None = refl

pub found_injective : (a b : Option Entry) → found_at a ≡ found_at b → a ≡ b
found_injective a b q = sym (found_back a) ∙ ap unfound q ∙ found_back b

-- ---- commands
-- the four handles that a list is asked for by
abbrev pub four_handles : ℕ → ℕ → ℕ → ℕ → List Handle
four_handles a b c d = handle_of a ∷ handle_of b ∷ handle_of c ∷ handle_of d ∷ []

abbrev pub unasked : Record → Command
unasked (SetUp n m c) = SetUpᶜ n m c
unasked (Asks (Start u v)) = Startᶜ u v
unasked (Asks (Deliver s r h)) = Deliverᶜ s r (handle_of h)
unasked (Asks (Store d)) = Storeᶜ d
unasked (Asks Nonce) = Nonceᶜ
unasked (Asks (MakeList k a b c d)) = Listᶜ k (four_handles a b c d)
unasked (Asks (Project h i)) = Projectᶜ (handle_of h) i
unasked (Asks (Encrypt k l)) = Encryptᶜ (handle_of k) (handle_of l)
unasked (Asks (Decrypt k c)) = Decryptᶜ (handle_of k) (handle_of c)
unasked (Asks (Parse h)) = Parseᶜ (handle_of h)

-- a list's handles are four, as the code's type says
abbrev pub HasFour : Command → Type 0
HasFour (SetUpᶜ n m c) = Unit {0}
HasFour (Startᶜ u v) = Unit {0}
HasFour (Deliverᶜ s r h) = Unit {0}
HasFour (Storeᶜ d) = Unit {0}
HasFour Nonceᶜ = Unit {0}
HasFour (Listᶜ k hs) = length hs ≡ 4
HasFour (Projectᶜ h i) = Unit {0}
HasFour (Encryptᶜ k l) = Unit {0}
HasFour (Decryptᶜ k c) = Unit {0}
HasFour (Parseᶜ h) = Unit {0}

four_back : (hs : List Handle) → length hs ≡ 4 → four_handles (beside_at hs 0) (beside_at hs 1) (beside_at hs 2) (beside_at hs 3) ≡ hs
unfolding beside_at
four_back [] p = absurd (omega arith)
four_back (a ∷ []) p = absurd (omega arith)
four_back (a ∷ b ∷ []) p = absurd (omega arith)
four_back (a ∷ b ∷ c ∷ []) p = absurd (omega arith)
four_back (a ∷ b ∷ c ∷ d ∷ []) p = refl
four_back (a ∷ b ∷ c ∷ d ∷ e ∷ hs) p = absurd (omega arith)

pub asked_back : (c : Command) → HasFour c → unasked (asked c) ≡ c
unfolding asked
asked_back (SetUpᶜ n m c) four = refl
asked_back (Startᶜ u v) four = refl
asked_back (Deliverᶜ s r h) four = refl
asked_back (Storeᶜ d) four = refl
asked_back Nonceᶜ four = refl
asked_back (Listᶜ k hs) four = ap (Listᶜ k) (four_back hs four)
asked_back (Projectᶜ h i) four = refl
asked_back (Encryptᶜ k l) four = refl
asked_back (Decryptᶜ k c) four = refl
asked_back (Parseᶜ h) four = refl

-- two commands that ask for the same are the same
pub asked_injective : (a b : Command) → HasFour a → HasFour b → asked a ≡ asked b → a ≡ b
asked_injective a b four fours q = sym (asked_back a four) ∙ ap unasked q ∙ asked_back b fours

-- a command but for a list's handles, of which this holds whatever their number
abbrev pub bare : Command → Command
bare (SetUpᶜ n m c) = SetUpᶜ n m c
bare (Startᶜ u v) = Startᶜ u v
bare (Deliverᶜ s r h) = Deliverᶜ s r h
bare (Storeᶜ d) = Storeᶜ d
bare Nonceᶜ = Nonceᶜ
bare (Listᶜ k hs) = Listᶜ k []
bare (Projectᶜ h i) = Projectᶜ h i
bare (Encryptᶜ k l) = Encryptᶜ k l
bare (Decryptᶜ k c) = Decryptᶜ k c
bare (Parseᶜ h) = Parseᶜ h

bare_back : (c : Command) → bare (unasked (asked c)) ≡ bare c
unfolding asked
bare_back (SetUpᶜ n m c) = refl
bare_back (Startᶜ u v) = refl
bare_back (Deliverᶜ s r h) = refl
bare_back (Storeᶜ d) = refl
bare_back Nonceᶜ = refl
bare_back (Listᶜ k hs) = refl
bare_back (Projectᶜ h i) = refl
bare_back (Encryptᶜ k l) = refl
bare_back (Decryptᶜ k c) = refl
bare_back (Parseᶜ h) = refl

pub bare_injective : (a b : Command) → asked a ≡ asked b → bare a ≡ bare b
bare_injective a b q = sym (bare_back a) ∙ ap (λ (r : Record). bare (unasked r)) q ∙ bare_back b

-- of a list, the handles are asked for too, whatever their number
beside_of : Record → ℕ → ℕ
beside_of (SetUp n m c) i = 0
beside_of (Asks (Start u v)) i = 0
beside_of (Asks (Deliver s r h)) i = 0
beside_of (Asks (Store d)) i = 0
beside_of (Asks Nonce) i = 0
beside_of (Asks (MakeList k a b c d)) i = get_or (a ∷ b ∷ c ∷ d ∷ []) i 0
beside_of (Asks (Project h j)) i = 0
beside_of (Asks (Encrypt k l)) i = 0
beside_of (Asks (Decrypt k c)) i = 0
beside_of (Asks (Parse h)) i = 0

pub beside_injective : (k j : ℕ) (hs ks : List Handle) → asked (Listᶜ k hs) ≡ asked (Listᶜ j ks)
    → (beside_at hs 0 ≡ beside_at ks 0) × (beside_at hs 1 ≡ beside_at ks 1) × (beside_at hs 2 ≡ beside_at ks 2) × (beside_at hs 3 ≡ beside_at ks 3)
unfolding asked beside_of
beside_injective k j hs ks q =
    (ap (λ (r : Record). beside_of r 0) q, ap (λ (r : Record). beside_of r 1) q, ap (λ (r : Record). beside_of r 2) q, ap (λ (r : Record). beside_of r 3) q)

-- ---- a scan from 1 upwards: what it says where it stops
-- at the first number that passes
pub scan_found : (f : ℕ → Bool) (n e : ℕ) → e + 1 ≤ n → lowest f e ≡ 0 → f (e + 1) ≡ true → (e + 1) ∷ [] ≡ or_nothing (lowest f n)
unfolding or_nothing
scan_found f n e l z p = rw (lowest_found f n e l z p, ne_eqb (e + 1) 0 (λ q. omega arith)) refl

-- where none passes
pub scan_nothing : (f : ℕ → Bool) (n : ℕ) → lowest f n ≡ 0 → [] ≡ or_nothing (lowest f n)
unfolding or_nothing
scan_nothing f n z = rw z refl

-- an equation for what an answer says and one for the run that is lent leave no choice of either; r stands for whatever else is lent
pub told : {B : Type 0} (z z' : Result Reply Refusal) (t t' : List ℕ) (r : B) {x y : List ℕ} → (said z ≡ x) × (t ≡ y) → (said z' ≡ x) × (t' ≡ y)
    → (z ≡ z') × (◌≡◌ {A = List ℕ × B} (t, r) (t', r))
told z z' t t' r p q = (said_injective z z' (p.0 ∙ sym q.0), ap (λ (u : List ℕ). (u, r)) (p.1 ∙ sym q.1))

-- and so for what can't be refused
abbrev reply_in : Result Reply Refusal → Reply
reply_in (Ok r) = r
reply_in (Err r) = Dropped

pub reply_told : {B : Type 0} (z z' : Reply) (t t' : List ℕ) (r : B) {x y : List ℕ} → (said (Ok z) ≡ x) × (t ≡ y) → (said (Ok z') ≡ x) × (t' ≡ y)
    → (z ≡ z') × (◌≡◌ {A = List ℕ × B} (t, r) (t', r))
reply_told z z' t t' r p q = let both = told (Ok z) (Ok z') t t' r p q in (ap reply_in both.0, both.1)
