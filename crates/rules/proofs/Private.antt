-- A nonce of two honest participants is held by these two alone: knower 0 holds only what is safe, and a participant finds in a message
-- under its key only what is safe and nonces that it is a side of. Assumes nothing.
use Prim.Native.Nat.{ℕ}
use native.Mathlib.Decide.{ℕ_discrete}
use mathlib.Core.Path.{◌≡◌, refl, sym, ◌∙◌}
use mathlib.Core.Logic.{◌≢◌, ◌⊎◌, inl, inr}
use mathlib.Core.Bool.{Bool, true}
use mathlib.Core.List.{List, [], ◌∷◌, Memᴰ}
use Rattle.rules.specs.Table.{Table}
use Rattle.rules.specs.Terms.{nonce, list}
use Rattle.rules.specs.Handshake.{term_in, Turn, Carries}
use Rattle.rules.proofs.Logic.{each_none, each_cons}
use Rattle.rules.proofs.Grows.{Grows, term_stays}
use Rattle.rules.proofs.Holding.{Holds}
use Rattle.rules.proofs.Reading.{term_keeps, clash}
use Rattle.rules.proofs.Safe.{Origin, first, second, third, Safe, safe_datum, element, hidden, Inside, bare, from, lent, safe_lasts}
use Rattle.rules.proofs.Moves.{Learns, reads, makes, names, lists, seals, Tells, Moves, derives, starts, answers, replies, accepts}
use Rattle.rules.proofs.Safety.{AllSafe, opened}

-- no participant but its two sides holds a nonce of two honest participants
abbrev pub AllPrivate : (ℕ → Bool) → Table → Type 0
AllPrivate H t = (k e a b : ℕ) → k ≢ 0 → Holds t k e → term_in t e ≡ nonce a b → H a ≡ true → H b ≡ true → (k ≡ a) ⊎ (k ≡ b)

module _ (H : ℕ → Bool) where
  -- what p finds in a message
  data Finds (t : Table) (h : List Turn) (p e : ℕ) : Type 1 where
    plain : Safe H t h (term_in t e) → Finds t h p e
    mine : (q : ℕ) → term_in t e ≡ nonce p q → Finds t h p e
    theirs : (q : ℕ) → term_in t e ≡ nonce q p → Finds t h p e

  module _ {t : Table} {h : List Turn} {p l : ℕ} {xs : List ℕ} (q : term_in t l ≡ list xs) where
    in_origin : Origin H t h p l → (e : ℕ) → Memᴰ e xs → Finds t h p e
    in_origin (first u m d hu a b c w) =
        let z : xs ≡ m ∷ d ∷ [] = cc in
        rw z (each_cons (Finds t h p) (theirs u b) (each_cons (Finds t h p) (plain (rw c safe_datum)) (each_none (Finds t h p))))
    in_origin (second s m n d hs a b b' c w) =
        let z : xs ≡ m ∷ n ∷ d ∷ [] = cc in
        rw z (each_cons (Finds t h p) (mine s b) (each_cons (Finds t h p) (theirs s b')
        (each_cons (Finds t h p) (plain (rw c safe_datum)) (each_none (Finds t h p)))))
    in_origin (third s m n hs a b w) =
        let z : xs ≡ n ∷ [] = cc in
        rw z (each_cons (Finds t h p) (mine s b) (each_none (Finds t h p)))

    in_message : Inside H t h p l → (e : ℕ) → Memᴰ e xs → Finds t h p e
    in_message (bare s) = λ e i. plain (element H (rw q at s) e i)
    in_message (from hp o) = in_origin o
    in_message (lent x s n d hp hs a sx b c) =
        let z : xs ≡ x ∷ n ∷ d ∷ [] = cc in
        rw z (each_cons (Finds t h p) (plain sx) (each_cons (Finds t h p) (theirs s b)
        (each_cons (Finds t h p) (plain (rw c safe_datum)) (each_none (Finds t h p)))))

  -- ---- one request
  module _ (x : Turn) (g : Grows x.before x.after) (h : List Turn) (safe : AllSafe H x.before h) (priv : AllPrivate H x.before)
      (e a b : ℕ) (is-e : term_in x.after e ≡ nonce a b) (ha : H a ≡ true) (hb : H b ≡ true) where
    abbrev Side : ℕ → Type 0
    Side k = (k ≡ a) ⊎ (k ≡ b)

    -- who held it is a side of it
    older : (k : ℕ) → k ≢ 0 → Holds x.before k e → Side k
    older k n i = priv k e a b n i (sym (term_stays g e i.uses.low i.uses.high) ∙ is-e) ha hb

    found : {p : ℕ} → Finds x.before h p e → Side p
    found (plain s) = hidden H ha hb (rw is-e at (safe_lasts H g x e s))
    found (mine q f) = let f' = term_keeps g e f refl in inl (cc)
    found (theirs q f) = let f' = term_keeps g e f refl in inr (cc)

    learnt : {p : ℕ} {xs : List ℕ} → ((y : ℕ) → Memᴰ y xs → Finds x.before h p y) → Learns x.after p xs e → Side p
    learnt f (reads i) = found (f e i)
    learnt f (makes q s) = inl (cc)
    learnt f (names d s) = clash (cc)
    learnt f (lists ys s) = clash (cc)
    learnt f (seals k l s) = clash (cc)

    told : {p : ℕ} {xs : List ℕ} → ((y : ℕ) → Memᴰ y xs → Finds x.before h p y) → Tells x p xs
        → (k : ℕ) → k ≢ 0 → Holds x.after k e → Side k
    told {p} {xs} f tells k n i = go (ℕ_discrete k p)
      where
        mine_now : Holds x.before p e ⊎ Learns x.after p xs e → k ≡ p → Side k
        mine_now (inl j) z = older k n (rw z j)
        mine_now (inr l) z = rw z (learnt f l)

        go : Dec (k ≡ p) → Side k
        go (yes z) = mine_now (tells.acting e (rw z at i)) z
        go (no z) = older k n (tells.others k n z e i)

    read : {k p : ℕ} {beside xs : List ℕ} → Carries x.before k beside p xs → (y : ℕ) → Memᴰ y xs → Finds x.before h p y
    read m = in_message m.holds (opened H m safe)

    side_after : Moves H x → (k : ℕ) → k ≢ 0 → Holds x.after k e → Side k
    side_after (derives c others f) k n i = older k n (others k n e i)
    side_after (starts u v m hu s only tells) k n i = told (each_none (Finds x.before h u)) tells k n i
    side_after (answers v u m n' y beside hv s took q only tells) k n i = told (read took) tells k n i
    side_after (replies u v m n' hu s only tells) k n i = told (read s.took) tells k n i
    side_after (accepts v u n' hv s unhanded tells) k n i = told (read s.took) tells k n i

  pub private_after : (x : Turn) → Grows x.before x.after → (h : List Turn) → AllSafe H x.before h → AllPrivate H x.before → Moves H x
      → AllPrivate H x.after
  private_after x g h safe priv moves k e a b n i is-e ha hb = side_after x g h safe priv e a b is-e ha hb moves k n i
