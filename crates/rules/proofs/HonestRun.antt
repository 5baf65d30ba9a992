-- Demand 3, second clause: left alone, two honest participants come to acceptance. Each of the four steps finds the message that the
-- step before it sent, and there is room for what it makes: 5 + 5 + 3 entries. Assumes nothing.
use Prim.Native.Nat.{ℕ, ◌+◌, ◌≤◌}
use native.Mathlib.Omega.{arith}
use mathlib.Core.Path.{◌≡◌, refl, sym, ◌∙◌}
use mathlib.Core.Logic.{◌≢◌}
use mathlib.Core.Bool.{true}
use mathlib.Core.List.{List, [], ◌∷◌}
use Rattle.rules.specs.Table.{Table, capacity, used, honest}
use Rattle.rules.specs.Terms.{datum_length, find_datum}
use Rattle.rules.specs.SetUp.{set_up_fits, set_up_table}
use Rattle.rules.specs.WellFormed.{well_formed}
use Rattle.rules.specs.Outcome.{Outcome, accepted}
use Rattle.rules.specs.Handles.{entry_of}
use Rattle.rules.specs.Steps.{opened}
use Rattle.rules.specs.Machine.{Request, Start, Deliver, step}
use Rattle.rules.specs.Handshake.{one, two, three, four, HonestRun, reached}
use Rattle.rules.proofs.Grows.{Grows, grows_honest}
use Rattle.rules.proofs.Stays.{step_formed, run_formed}
use Rattle.rules.proofs.SetUpFormed.{set_up_formed}
use Rattle.rules.proofs.Reading.{term_keeps}
use Rattle.rules.proofs.Needs.{named_count, unless_few}
use Rattle.rules.proofs.Sending.{Posted, posted_carries, Named}
use Rattle.rules.proofs.Delivering.{started, answered, replied, agreed}

-- a message with a name takes five entries at most
five : {t : Table} {p q : ℕ} {known repeated : List ℕ} {o : Outcome} → Named t p q known repeated o → used o.table ≤ used t + 5
five {t} {p} {repeated = repeated} m = omega (arith, m.count, named_count t p repeated, unless_few (find_datum t p) datum_length)

-- a well-formed table in which both are honest
record Fair (t : Table) (u v : ℕ) : Type 0 where
  formed : well_formed t ≡ true
  is_u : honest t u ≡ true
  is_v : honest t v ≡ true

fair_next : {t : Table} {u v : ℕ} → Fair t u v → (r : Request) → Grows t (step r t).table → Fair (step r t).table u v
fair_next {t} {u} {v} f r g =
    record { formed = step_formed r t f.formed; is_u = grows_honest g u ∙ f.is_u; is_v = grows_honest g v ∙ f.is_v }

module _ (t : Table) (u v : ℕ) (fair : Fair t u v) (apart : u ≢ v) (room : used t + 13 ≤ capacity t) where
  -- u starts
  m1 : Named t u v [] [] (one t u v)
  m1 = started t fair.formed u v fair.is_u fair.is_v apart (omega arith)

  h1 : ℕ
  h1 = m1.posted.handed

  fair1 : Fair (one t u v).table u v
  fair1 = fair_next fair (Start u v) m1.posted.grows

  room1 : used (one t u v).table + 8 ≤ capacity (one t u v).table
  room1 = omega (arith, five m1, m1.posted.grows.head 3 (omega arith))

  -- v answers
  m2 : Named (one t u v).table v u (opened (one t u v).table (entry_of (one t u v).table 0 h1)) (m1.new ∷ []) (two t u v h1)
  unfolding h1
  m2 =
      answered (one t u v).table fair1.formed v u fair1.is_v fair1.is_u (λ q. apart (sym q)) h1 m1.new m1.name u v []
      (posted_carries m1.posted) m1.is_nonce m1.is_name (omega (arith, room1))

  h2 : ℕ
  h2 = m2.posted.handed

  fair2 : Fair (two t u v h1).table u v
  fair2 = fair_next fair1 (Deliver u v h1) m2.posted.grows

  room2 : used (two t u v h1).table + 3 ≤ capacity (two t u v h1).table
  room2 = omega (arith, room1, five m2, m2.posted.grows.head 3 (omega arith))

  -- u replies
  m3 : Posted (two t u v h1).table u v (opened (two t u v h1).table (entry_of (two t u v h1).table 0 h2)) (m2.new ∷ []) (three t u v h1 h2)
  unfolding h2
  m3 =
      replied (two t u v h1).table fair2.formed u v fair2.is_u fair2.is_v apart h2 m1.new m2.new m2.name v u []
      (posted_carries m2.posted) (term_keeps m2.posted.grows m1.new m1.is_nonce refl) m2.is_nonce m2.is_name room2

  h3 : ℕ
  h3 = m3.handed

  fair3 : Fair (three t u v h1 h2).table u v
  fair3 = fair_next fair2 (Deliver v u h2) m3.grows

  -- v accepts
  m4 : (four t u v h1 h2 h3).answer ≡ accepted v u
  unfolding h3
  m4 =
      agreed (three t u v h1 h2).table fair3.formed v u fair3.is_v fair3.is_u (λ q. apart (sym q)) h3 m2.new []
      (posted_carries m3) (term_keeps m3.grows m2.new m2.is_nonce refl)

  runs : HonestRun t u v
  unfolding h1 h2 h3
  runs = record { h1 = h1; h2 = h2; h3 = h3; starts = m1.posted.told; answers = m2.posted.told; replies = m3.told; accepts = m4 }

-- from every well-formed table with room
pub honest_run : (t : Table) (u v : ℕ) → well_formed t ≡ true → honest t u ≡ true → honest t v ≡ true → u ≢ v → used t + 13 ≤ capacity t
    → HonestRun t u v
honest_run t u v formed is_u is_v apart room = runs t u v (record { formed = formed; is_u = is_u; is_v = is_v }) apart room

-- so from every table with room that requests can reach after a set-up
pub honest_run_reached : (n m c : ℕ) (t : Table) → set_up_fits t n m c ≡ true → (rs : List Request) (u v : ℕ)
    → honest (reached n m c t rs) u ≡ true → honest (reached n m c t rs) v ≡ true → u ≢ v
    → used (reached n m c t rs) + 13 ≤ capacity (reached n m c t rs) → HonestRun (reached n m c t rs) u v
honest_run_reached n m c t fits rs u v = honest_run (reached n m c t rs) u v (run_formed rs (set_up_table t n m c) (set_up_formed n m c t fits))
