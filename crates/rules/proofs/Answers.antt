-- Every answer of the rules is one of the seven words with its values, so some value of the code's `Answer` says it. True since set-up ends in
-- `ready` or a refusal, and a request in an answer of another word or in a refusal. Assumes nothing.
use Rattle.std.specs.Prelude.{if◌then◌else◌}
use Prim.Native.Nat.{ℕ}
use mathlib.Core.Path.{◌≡◌, refl}
use mathlib.Core.Bool.{Bool, true, false}
use mathlib.Core.List.{List, []}
use lib.Dec.{eqb}
use Rattle.rules.specs.Table.{Table}
use Rattle.rules.specs.Terms.{Term}
use Rattle.rules.specs.SetUp.{set_up_fits}
use Rattle.rules.specs.Outcome.{Outcome, sent, accepted, dropped, handed, parsed, refused, need, need_room, gives_handle}
use Rattle.rules.specs.Commands.{give_new, give_found_or_new, store, new_nonce, make_list_of, make_list, project_of, project, encrypt_of, encrypt, decrypt_of, decrypt, parse_of, parse}
use Rattle.rules.specs.Steps.{send, send_named, start, Message, first, second, third, none, answer_first, answer_second, answer_message, deliver_list, deliver}
use Rattle.rules.specs.Machine.{Request, Start, Deliver, Store, Nonce, MakeList, Project, Encrypt, Decrypt, Parse, Record, SetUp, Asks, act, step, set_up, perform}
use Rattle.rules.specs.Meaning.{said}
use Rattle.rules.proofs.Meaning.{unsaid}

-- ---- what a request is answered
pub data Reply : List ℕ → Type 0 where
  sends : {p q h : ℕ} → Reply (sent p q h)
  accepts : {p q : ℕ} → Reply (accepted p q)
  drops : Reply dropped
  hands : {h : ℕ} → Reply (handed h)
  parses : {y v l : ℕ} → Reply (parsed y v l)
  refuses : {n : ℕ} → Reply (refused n)

-- through a choice, and so through the tests before a step
reply_or : (b : Bool) (x y : Outcome) → Reply x.answer → Reply y.answer → Reply (if b then x else y).answer
reply_or true x y h k = h
reply_or false x y h k = k

reply_need : (b : Bool) (k : ℕ) (t : Table) (rest : Outcome) → Reply rest.answer → Reply (need b k t rest).answer
unfolding need
reply_need b k t rest h = reply_or b rest _ h refuses

reply_room : (t : Table) (lengths : List ℕ) (rest : Outcome) → Reply rest.answer → Reply (need_room t lengths rest).answer
unfolding need_room
reply_room t lengths rest h = reply_need _ 9 t _ (reply_need _ 10 t rest h)

reply_new : (t : Table) (x : Term) → Reply (give_new t x).answer
unfolding give_new gives_handle
reply_new t x = reply_room t _ _ hands

reply_found : (t : Table) (e : ℕ) (x : Term) → Reply (give_found_or_new t e x).answer
unfolding give_found_or_new gives_handle
reply_found t e x = reply_or (eqb e 0) _ _ (reply_new t x) hands

reply_named : (t : Table) (p q : ℕ) (known repeated : List ℕ) → Reply (send_named t p q known repeated).answer
unfolding send_named send
reply_named t p q known repeated = sends

reply_message : (t : Table) (r s l : ℕ) (m : Message) → Reply (answer_message t r s l m).answer
unfolding answer_message answer_first answer_second send
reply_message t r s l (first x1) = reply_room t _ _ (reply_named t r s _ _)
reply_message t r s l (second x2) = reply_room t _ _ sends
reply_message t r s l third = accepts
reply_message t r s l none = drops

pub act_replies : (r : Request) (t : Table) → Reply (act r t).answer
unfolding act start deliver deliver_list store new_nonce make_list make_list_of project project_of encrypt encrypt_of decrypt decrypt_of gives_handle parse parse_of
act_replies (Start u v) t = reply_need _ 3 t _ (reply_room t _ _ (reply_named t u v [] []))
act_replies (Deliver s r h) t = reply_need _ 3 t _ (reply_need _ 5 t _ (reply_need _ 6 t _ (reply_message t r s _ _)))
act_replies (Store d) t = reply_found t _ _
act_replies Nonce t = reply_new t _
act_replies (MakeList k a b c d) t = reply_need _ 4 t _ (reply_need _ 5 t _ (reply_need _ 6 t _ (reply_found t _ _)))
act_replies (Project h i) t = reply_need _ 4 t _ (reply_need _ 5 t _ (reply_need _ 6 t _ (reply_need _ 7 t _ hands)))
act_replies (Encrypt k l) t = reply_need _ 5 t _ (reply_need _ 6 t _ (reply_new t _))
act_replies (Decrypt k c) t = reply_need _ 5 t _ (reply_need _ 6 t _ (reply_need _ 8 t _ hands))
act_replies (Parse h) t = reply_need _ 5 t _ parses

pub step_replies : (r : Request) (t : Table) → Reply (step r t).answer
unfolding step
step_replies r t = reply_need _ 1 t _ (act_replies r t)

-- ---- each is what its value of the code's type says
reply_said : {a : List ℕ} → Reply a → said (unsaid a) ≡ a
unfolding said
reply_said sends = refl
reply_said accepts = refl
reply_said drops = refl
reply_said hands = refl
reply_said parses = refl
reply_said refuses = refl

said_need : (b : Bool) (k : ℕ) (t : Table) (rest : Outcome) → said (unsaid rest.answer) ≡ rest.answer
    → said (unsaid (need b k t rest).answer) ≡ (need b k t rest).answer
unfolding need said
said_need true k t rest h = h
said_need false k t rest h = refl

pub answer_said : (r : Record) (t : Table) → said (unsaid (perform r t).answer) ≡ (perform r t).answer
unfolding perform set_up said
answer_said (SetUp n m c) t = said_need (set_up_fits t n m c) 2 t _ refl
answer_said (Asks r) t = reply_said (step_replies r t)
