-- Demand 3, its first clause, and who holds what is secret, of every sequence of requests after a set-up that isn't refused: what set-up
-- leaves is secure, each request keeps it so, and then the message that lets an honest participant accept has a run behind it. Assumes nothing.
use Prim.Native.Nat.{ℕ}
use native.Mathlib.Omega.{arith}
use native.Mathlib.Decide.{ℕ_discrete}
use mathlib.Core.Path.{◌≡◌, refl, sym, ◌∙◌}
use mathlib.Core.Logic.{◌≢◌, ◌⊎◌, inl, inr}
use mathlib.Core.Bool.{true}
use mathlib.Core.List.{List, [], ◌∷◌}
use Rattle.rules.specs.Table.{Table, handle, honest}
use Rattle.rules.specs.Terms.{nonce, secret_key_of}
use Rattle.rules.specs.SetUp.{set_up_fits, set_up_table}
use Rattle.rules.specs.Outcome.{accepted}
use Rattle.rules.specs.Machine.{Request, step, run, table_after}
use Rattle.rules.specs.Handshake.{term_in, turn, turns, InOrder, Starts, Answers, Replies, Accepts}
use Rattle.rules.proofs.Holding.{Holds}
use Rattle.rules.proofs.Shaping.{shaped}
use Rattle.rules.proofs.Delivering.{honest_person}
use Rattle.rules.proofs.Stays.{run_formed}
use Rattle.rules.proofs.AfterSetUp.{set_up_head}
use Rattle.rules.proofs.SetUpFormed.{set_up_formed}
use Rattle.rules.proofs.Reading.{clash, term_used}
use Rattle.rules.proofs.Safe.{hidden}
use Rattle.rules.proofs.Moves.{Moves, derives, starts, answers, replies, accepts, not_accepted}
use Rattle.rules.proofs.Safety.{last_message}
use Rattle.rules.proofs.Following.{followed}
use Rattle.rules.proofs.Secure.{Secure, secure_run, keys_secure}

-- ---- any sequence of requests after a set-up that isn't refused
module _ (t : Table) (n m c : ℕ) (fits : set_up_fits t n m c ≡ true) (rs : List Request) where
  secure : let s = set_up_table t n m c in Secure (honest s) (table_after s (run rs s)) (turns rs s)
  secure =
      let s = set_up_table t n m c in
      let head = set_up_head n m c t fits in
      secure_run (keys_secure s (shaped s (set_up_formed n m c t fits)) (omega (arith, head.0, head.3))) rs

  -- demand 3: if then a request makes v accept u on the nonce k, both honest, then u started with v using some nonce w, v answered it with
  -- w and k, and u answered with k, in this order of time
  pub authentic : let s = set_up_table t n m c in let b = table_after s (run rs s) in
      (r : Request) (v u k : ℕ) → honest s v ≡ true → honest s u ≡ true → Accepts v u k (turn b r (step r b))
      → (w : ℕ) × InOrder (Starts u v w ∷ Answers v u w k ∷ Replies u v w k ∷ []) (turns rs s)
  authentic r v u k hv hu a = last_message (honest (set_up_table t n m c)) v u k secure.safe a.took a.is_nonce hv hu

  -- a nonce of two honest participants is held by nobody else
  pub secret_nonces : let s = set_up_table t n m c in let b = table_after s (run rs s) in
      (e p q : ℕ) → term_in b e ≡ nonce p q → honest s p ≡ true → honest s q ≡ true → (k : ℕ) → k ≢ p → k ≢ q → handle b k e ≡ 0
  secret_nonces e p q is hp hq k np nq = go (ℕ_discrete (handle b k e) 0) (ℕ_discrete k 0)
    where
      b : Table
      b = let s = set_up_table t n m c in table_after s (run rs s)

      neither : (k ≡ p) ⊎ (k ≡ q) → handle b k e ≡ 0
      neither (inl z) = absurd (np z)
      neither (inr z) = absurd (nq z)

      held : handle b k e ≢ 0 → Holds b k e
      held d = record { uses = term_used b e is (λ z. clash (cc)); some = d }

      go : Dec (handle b k e ≡ 0) → Dec (k ≡ 0) → handle b k e ≡ 0
      go (yes z) d = z
      go (no d) (yes z) = hidden (honest (set_up_table t n m c)) hp hq (rw is at (secure.safe e (rw z at (held d))))
      go (no d) (no z) = neither (secure.priv k e p q z (held d) is hp hq)

  -- an honest participant's secret key is held by nobody else
  pub secret_keys : let s = set_up_table t n m c in let b = table_after s (run rs s) in
      (p k : ℕ) → honest s p ≡ true → k ≢ p → handle b k (secret_key_of p) ≡ 0
  secret_keys p k hp d =
      let s = set_up_table t n m c in
      let b = table_after s (run rs s) in
      let here = secure.same p ∙ hp in
      (shaped b (run_formed rs s (set_up_formed n m c t fits))).secret_held p k (honest_person b p here) here d

-- who answers `accepted` did accept, on some nonce
pub accepts_on : (t : Table) (r : Request) (v u : ℕ) → (step r t).answer ≡ accepted v u → (k : ℕ) × Accepts v u k (turn t r (step r t))
accepts_on t r v u q = go (followed (honest t) t (λ p. refl) r).moves
  where
    go : Moves (honest t) (turn t r (step r t)) → (k : ℕ) × Accepts v u k (turn t r (step r t))
    go (derives a others f) = absurd (a v u q)
    go (starts u' v' m hu s only tells) = absurd (not_accepted (omega arith) v u (sym s.told ∙ q))
    go (answers v' u' m n y beside hv s took is_y only tells) = absurd (not_accepted (omega arith) v u (sym s.told ∙ q))
    go (replies u' v' m n hu s only tells) = absurd (not_accepted (omega arith) v u (sym s.told ∙ q))
    go (accepts v' u' n hv s unhanded tells) =
        let a = s.told in
        let ev : v' ≡ v = cc in
        let eu : u' ≡ u = cc in
        (n, rw (ev, eu) at s)
