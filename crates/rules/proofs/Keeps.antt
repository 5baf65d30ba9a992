-- Who refuses or drops leaves the table as it was: a refusal comes from `need` alone, which gives back the table that it was handed.
-- Assumes nothing.
use Rattle.std.specs.Prelude.{if◌then◌else◌}
use Prim.Native.Nat.{ℕ, ◌-◌, ◌≤◌}
use native.Mathlib.Omega.{arith}
use mathlib.Core.Path.{◌≡◌, refl, sym, ◌∙◌}
use mathlib.Core.Logic.{◌≢◌}
use mathlib.Core.Bool.{Bool, true, false}
use mathlib.Core.List.{List, [], ◌∷◌}
use lib.Dec.{eqb, leb}
use lib.ListN.{length}
use Rattle.rules.specs.Choice.{every}
use Rattle.rules.specs.Table.{Table, used, capacity}
use Rattle.rules.specs.Terms.{Term, length_of, new_entry, create, find_datum, find_list}
use Rattle.rules.specs.Handles.{entry_of}
use Rattle.rules.specs.SetUp.{set_up_fits, set_up_table}
use Rattle.rules.specs.WellFormed.{well_formed}
use Rattle.rules.specs.Outcome.{Outcome, gives, ready, refused, dropped, need, is_short, need_room, gives_handle}
use Rattle.rules.specs.Commands.{give_new, give_found_or_new, store, new_nonce, make_list_of, make_list, project_of, project, encrypt_of, encrypt, decrypt_of, decrypt, parse_of, parse}
use Rattle.rules.specs.Steps.{Made, send, send_named, start, Message, first, second, third, none, read_message, answer_first, answer_second, answer_message, deliver_list, deliver}
use Rattle.rules.specs.Machine.{Request, Start, Deliver, Store, Nonce, MakeList, Project, Encrypt, Decrypt, Parse, act, step, set_up}
use Rattle.rules.proofs.Logic.{first_of, rest_of}

-- ---- an outcome refuses, with no lower number than the given one, or drops or does something, judged by its answer's number
pub data Kept (low : ℕ) (t : Table) (o : Outcome) : Type 0 where
  refuses : (k : ℕ) → low ≤ k → k ≤ 10 → o.answer ≡ refused k → o.table ≡ t → Kept low t o
  drops : o.answer ≡ dropped → o.table ≡ t → Kept low t o
  does : (n : ℕ) (values : List ℕ) → o.answer ≡ n ∷ values → n ≢ 7 → n ≢ 4 → Kept low t o

kept_need : {low : ℕ} (b : Bool) (k : ℕ) (t : Table) (rest : Outcome) → low ≤ k → k ≤ 10 → Kept low t rest → Kept low t (need b k t rest)
unfolding need
kept_need true k t rest a c r = r
kept_need false k t rest a c r = refuses k a c refl refl

kept_room : (t : Table) (lengths : List ℕ) (rest : Outcome) → Kept 3 t rest → Kept 3 t (need_room t lengths rest)
unfolding need_room
kept_room t lengths rest r =
    kept_need (every is_short lengths) 9 t _ (omega arith) (omega arith)
    (kept_need (leb (length lengths) (capacity t - used t)) 10 t rest (omega arith) (omega arith) r)

-- ---- the adversary's commands
kept_handle : (t s : Table) (e : ℕ) → Kept 3 t (gives_handle s e)
unfolding gives_handle
kept_handle t s e = does 5 _ refl (λ q. omega arith) (λ q. omega arith)

kept_new : (t : Table) (x : Term) → Kept 3 t (give_new t x)
unfolding give_new
kept_new t x = kept_room t (length_of t x ∷ []) _ (kept_handle t (create t x (length_of t x)) (new_entry t))

kept_found : (t : Table) (e : ℕ) (x : Term) → Kept 3 t (give_found_or_new t e x)
unfolding give_found_or_new
kept_found t e x = go (eqb e 0)
  where
    go : (b : Bool) → Kept 3 t (if b then give_new t x else gives_handle t e)
    go true = kept_new t x
    go false = kept_handle t t e

kept_list : (t : Table) (es : List ℕ) → Kept 3 t (make_list_of t es)
unfolding make_list_of
kept_list t es = kept_need _ 6 t _ (omega arith) (omega arith) (kept_found t (find_list t es) _)

kept_project : (t : Table) (e i : ℕ) → Kept 3 t (project_of t e i)
unfolding project_of
kept_project t e i =
    kept_need _ 6 t _ (omega arith) (omega arith) (kept_need _ 7 t _ (omega arith) (omega arith) (kept_handle t t _))

kept_encrypt : (t : Table) (k l : ℕ) → Kept 3 t (encrypt_of t k l)
unfolding encrypt_of
kept_encrypt t k l = kept_need _ 6 t _ (omega arith) (omega arith) (kept_new t _)

kept_decrypt : (t : Table) (k c : ℕ) → Kept 3 t (decrypt_of t k c)
unfolding decrypt_of
kept_decrypt t k c =
    kept_need _ 6 t _ (omega arith) (omega arith) (kept_need _ 8 t _ (omega arith) (omega arith) (kept_handle t t _))

-- ---- the honest steps
kept_send : (t : Table) (p q : ℕ) (known : List ℕ) (inner : Made) (l : ℕ) → Kept 3 t (send p q known inner l)
unfolding send
kept_send t p q known inner l = does 2 _ refl (λ z. omega arith) (λ z. omega arith)

kept_named : (t : Table) (p q : ℕ) (known repeated : List ℕ) → Kept 3 t (send_named t p q known repeated)
unfolding send_named
kept_named t p q known repeated = kept_send t p q _ _ _

kept_message : (t : Table) (r s l : ℕ) (m : Message) → Kept 3 t (answer_message t r s l m)
unfolding answer_message answer_first answer_second
kept_message t r s l (first x1) = kept_room t _ _ (kept_named t r s _ _)
kept_message t r s l (second x2) = kept_room t _ _ (kept_send t r s _ _ _)
kept_message t r s l third = does 3 _ refl (λ q. omega arith) (λ q. omega arith)
kept_message t r s l none = drops refl refl

kept_deliver : (t : Table) (s r l : ℕ) → Kept 3 t (deliver_list t s r l)
unfolding deliver_list
kept_deliver t s r l = kept_need _ 6 t _ (omega arith) (omega arith) (kept_message t r s l (read_message t r s l))

-- ---- every request
pub kept_act : (r : Request) (t : Table) → Kept 3 t (act r t)
unfolding act start deliver store new_nonce make_list project encrypt decrypt parse parse_of
kept_act (Start u v) t = kept_need _ 3 t _ (omega arith) (omega arith) (kept_room t _ _ (kept_named t u v [] []))
kept_act (Deliver s r h) t =
    kept_need _ 3 t _ (omega arith) (omega arith) (kept_need _ 5 t _ (omega arith) (omega arith) (kept_deliver t s r (entry_of t 0 h)))
kept_act (Store d) t = kept_found t (find_datum t d) _
kept_act Nonce t = kept_new t _
kept_act (MakeList k a b c d) t =
    kept_need _ 4 t _ (omega arith) (omega arith) (kept_need _ 5 t _ (omega arith) (omega arith) (kept_list t _))
kept_act (Project h i) t =
    kept_need _ 4 t _ (omega arith) (omega arith) (kept_need _ 5 t _ (omega arith) (omega arith) (kept_project t _ i))
kept_act (Encrypt k l) t = kept_need _ 5 t _ (omega arith) (omega arith) (kept_encrypt t _ _)
kept_act (Decrypt k c) t = kept_need _ 5 t _ (omega arith) (omega arith) (kept_decrypt t _ _)
kept_act (Parse h) t = kept_need _ 5 t _ (omega arith) (omega arith) (does 6 _ refl (λ q. omega arith) (λ q. omega arith))

-- the test for well-formedness adds refusal 1
pub kept_step : (r : Request) (t : Table) → Kept 1 t (step r t)
unfolding step
kept_step r t = kept_need (well_formed t) 1 t _ (omega arith) (omega arith) (lower (kept_act r t))
  where
    lower : {o : Outcome} → Kept 3 t o → Kept 1 t o
    lower (refuses n a b p z) = refuses n (omega arith) b p z
    lower (drops p z) = drops p z
    lower (does n vs p m d) = does n vs p m d

-- ---- the statements
-- a refusal has a number from 1 to 10 and leaves every word
pub refused_keeps : (r : Request) (t : Table) (k : ℕ) → (step r t).answer ≡ refused k → ((step r t).table ≡ t) × (1 ≤ k) × (k ≤ 10)
refused_keeps r t k q = go (kept_step r t)
  where
    go : Kept 1 t (step r t) → ((step r t).table ≡ t) × (1 ≤ k) × (k ≤ 10)
    go (refuses n a b p z) =
        let e : n ≡ k = first_of (rest_of (sym p ∙ q)) in
        (z, omega arith, omega arith)
    go (drops p z) = let e : ◌≡◌ {A = ℕ} 4 7 = first_of (sym p ∙ q) in absurd (omega arith)
    go (does n vs p m d) = absurd (m (first_of (sym p ∙ q)))

-- a message that is dropped leaves every word
pub dropped_keeps : (r : Request) (t : Table) → (step r t).answer ≡ dropped → (step r t).table ≡ t
dropped_keeps r t q = go (kept_step r t)
  where
    go : Kept 1 t (step r t) → (step r t).table ≡ t
    go (refuses n a b p z) = z
    go (drops p z) = z
    go (does n vs p m d) = absurd (d (first_of (sym p ∙ q)))

pub need_same : (b : Bool) (k : ℕ) (t : Table) (rest : Outcome) → rest.table ≡ t → (need b k t rest).table ≡ t
unfolding need
need_same true k t rest h = h
need_same false k t rest h = refl

-- parse leaves every word, whatever it answers
pub parse_keeps : (h : ℕ) (t : Table) → (step (Parse h) t).table ≡ t
unfolding step act parse parse_of
parse_keeps h t = need_same (well_formed t) 1 t _ (need_same _ 5 t _ refl)

-- set-up refuses with 2 alone, and leaves every word then
pub set_up_refuses : (n m c : ℕ) (t : Table) (k : ℕ) → (set_up n m c t).answer ≡ refused k → (k ≡ 2) × ((set_up n m c t).table ≡ t)
unfolding set_up need
set_up_refuses n m c t k = go (set_up_fits t n m c)
  where
    go : (b : Bool)
        → (if b then gives (ready (used (set_up_table t n m c))) (set_up_table t n m c) else gives (refused 2) t).answer ≡ refused k
        → (k ≡ 2) × ((if b then gives (ready (used (set_up_table t n m c))) (set_up_table t n m c) else gives (refused 2) t).table ≡ t)
    go true q = let e : ◌≡◌ {A = ℕ} 1 7 = first_of q in absurd (omega arith)
    go false q = (sym (first_of (rest_of q)), refl)

-- ---- the test that the table is well formed
pub not_formed : (r : Request) (t : Table) → well_formed t ≡ false → step r t ≡ gives (refused 1) t
unfolding step need
not_formed r t p = rw p refl

pub is_formed : (r : Request) (t : Table) → well_formed t ≡ true → step r t ≡ act r t
unfolding step need
is_formed r t p = rw p refl

-- a well-formed table is never refused with 1
pub formed_passes : (r : Request) (t : Table) → well_formed t ≡ true → (step r t).answer ≡ refused 1 → ⊥
unfolding step need
formed_passes r t w = rw w (λ q. go q (kept_act r t))
  where
    go : (act r t).answer ≡ refused 1 → Kept 3 t (act r t) → ⊥
    go q (refuses n a b p z) = let e : n ≡ 1 = first_of (rest_of (sym p ∙ q)) in omega arith
    go q (drops p z) = let e : ◌≡◌ {A = ℕ} 4 7 = first_of (sym p ∙ q) in omega arith
    go q (does n vs p m d) = m (first_of (sym p ∙ q))
