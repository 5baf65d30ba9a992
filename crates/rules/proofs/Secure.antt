-- What every sequence of requests keeps, with the turns so far for a history: who is honest, that knower 0 holds only what is safe, and
-- that the nonces of the honest are private. It holds of a table with the keys alone, and every request is a move. Assumes nothing.
use Prim.Native.Nat.{ℕ, ◌*◌}
use native.Mathlib.Omega.{arith}
use mathlib.Core.Path.{◌≡◌, refl, sym, ap, ◌∙◌}
use mathlib.Core.Logic.{◌⊎◌}
use mathlib.Core.Bool.{Bool, false}
use mathlib.Core.List.{List, [], ◌∷◌, ◌++◌, append-nil, append_assoc}
use Rattle.rules.specs.Table.{Table, participants, used, type_at, is_participant, honest}
use Rattle.rules.specs.Terms.{secret_key, public_key, secret_key_of}
use Rattle.rules.specs.Machine.{Request, step, run, table_after}
use Rattle.rules.specs.Handshake.{term_in, Turn, turn, turns, turns_by}
use Rattle.rules.proofs.Granting.{some_holds}
use Rattle.rules.proofs.Shaped.{Used, Person, Shaped}
use Rattle.rules.proofs.Grows.{grows_honest}
use Rattle.rules.proofs.Shaping.{KeyPlace, secret, public, key_place}
use Rattle.rules.proofs.Reading.{clash, secret_term, public_term}
use Rattle.rules.proofs.Orders.{◌then◌}
use Rattle.rules.proofs.Safe.{Safe, safe_secret, safe_public}
use Rattle.rules.proofs.Moves.{Followed}
use Rattle.rules.proofs.Safety.{AllSafe, safe_after}
use Rattle.rules.proofs.Private.{AllPrivate, private_after}
use Rattle.rules.proofs.Following.{followed}

-- knower 0 is nobody honest
pub zero_strange : (t : Table) → honest t 0 ≡ false
unfolding honest is_participant
zero_strange t = refl

-- ---- what every sequence of requests keeps, H being the honest
pub record Secure (H : ℕ → Bool) (t : Table) (h : List Turn) : Type 1 where
  pub same : (p : ℕ) → honest t p ≡ H p
  pub safe : AllSafe H t h
  pub priv : AllPrivate H t

secure_step : {H : ℕ → Bool} {t : Table} {h : List Turn} → Secure H t h → (r : Request) → Secure H (step r t).table (h then turn t r (step r t))
secure_step {H} {t} {h} c r = record {
  same = λ p. grows_honest f.grows p ∙ c.same p;
  safe = safe_after H (sym (c.same 0) ∙ zero_strange t) (turn t r (step r t)) f.grows h c.safe f.moves;
  priv = private_after H (turn t r (step r t)) f.grows h c.safe c.priv f.moves;
}
  where
    f : Followed H t r (step r t)
    f = followed H t c.same r

pub secure_run : {H : ℕ → Bool} {t : Table} {h : List Turn} → Secure H t h → (rs : List Request) → Secure H (table_after t (run rs t)) (h ++ turns rs t)
unfolding run table_after turns_by
secure_run {H} {t} {h} c [] = rw append-nil c
secure_run {H} {t} {h} c (r ∷ rs) = rw append_assoc at (secure_run {t = (step r t).table} (secure_step c r) rs)

-- ---- a table whose entries are the keys alone
module _ (t : Table) (sh : Shaped t) (keys : used t ≡ 2 * participants t) where
  -- an entry of it: a secret key in its place, or a public key
  data Key (e : ℕ) : Type 0 where
    secret_of : (p : ℕ) → Person t p → e ≡ secret_key_of p → term_in t e ≡ secret_key p → Key e
    public_of : (p : ℕ) → term_in t e ≡ public_key p → Key e

  key_at : (e : ℕ) → Used t e → Key e
  key_at e u = go (key_place t e u.low (omega (arith, u.high)))
    where
      go : KeyPlace t e → Key e
      go (secret p w z) =
          let k = sh.key_types p w in
          secret_of p w z (secret_term t e u (ap (type_at t) z ∙ k.0) ∙ ap secret_key (rw z k.1))
      go (public p w z) =
          let k = sh.key_types p w in
          public_of p (public_term t e u (ap (type_at t) z ∙ k.2) ∙ ap public_key (rw z k.3))

  -- knower 0 holds the secret keys of those alone who aren't honest
  keys_safe : AllSafe (honest t) t []
  keys_safe e i = go (key_at e i.uses)
    where
      go : Key e → Safe (honest t) t [] (term_in t e)
      go (secret_of p w z q) = rw q (safe_secret (sh.secret_open p w (rw z at (some_holds t 0 e i.some))))
      go (public_of p q) = rw q safe_public

  -- there is no nonce yet
  keys_private : AllPrivate (honest t) t
  keys_private k e a b n i is-e ha hb = go (key_at e i.uses)
    where
      go : Key e → (k ≡ a) ⊎ (k ≡ b)
      go (secret_of p w z q) = clash (cc)
      go (public_of p q) = clash (cc)

  pub keys_secure : Secure (honest t) t []
  keys_secure = record { same = λ p. refl; safe = keys_safe; priv = keys_private }
