-- Knower 0 holds only what is safe: what it derives from safe entries is safe, and an honest participant that seals a nonce of two honest
-- ones does so in answer to a message that has the right origin, since no other list in knower 0's hands has that nonce. So the last
-- message of a run, which lets an honest participant accept, has the whole run behind it. Assumes nothing.
use Prim.Native.Nat.{ℕ}
use native.Mathlib.Omega.{arith}
use mathlib.Core.Path.{◌≡◌, refl}
use mathlib.Core.Logic.{◌⊎◌, inl, inr}
use mathlib.Core.Bool.{Bool, true, false}
use mathlib.Core.List.Memᴰ
use mathlib.Core.List.{List, [], ◌∷◌, Memᴰ}
use borrow.Author.Tests.{ne_eqb}
use Rattle.rules.specs.Table.{Table}
use Rattle.rules.specs.Terms.{Term, datum, nonce, list, ciphertext, public_key_of}
use Rattle.rules.specs.Handles.{entry_of, holds_handle}
use Rattle.rules.specs.Handshake.{term_in, Turn, InOrder, none, Carries, Starts, Answers, Replies}
use Rattle.rules.proofs.Logic.{each_none, each_cons}
use Rattle.rules.proofs.Grows.{Grows}
use Rattle.rules.proofs.Holding.{Holds, handle_held}
use Rattle.rules.proofs.Reading.{term_keeps, clash, term_used}
use Rattle.rules.proofs.Orders.{◌then◌, lastly}
use Rattle.rules.proofs.Safe.{Origin, first, second, third, Safe, safe_datum, safe_nonce, safe_list, safe_cipher, sealed, foreign, element, hidden, Inside, bare, from, lent, inside, reveal, safe_lasts}
use Rattle.rules.proofs.Moves.{Derived, stored, made, listed, projected, encrypted, decrypted, Hands, Moves, derives, starts, answers, replies, accepts}

-- whether a participant is honest, with the equation
by_honest {ℓ} : {A : Type ℓ} (H : ℕ → Bool) (p : ℕ) → (H p ≡ true → A) → (H p ≡ false → A) → A
by_honest {A = A} H p f g = go (H p) refl
  where
    go : (b : Bool) → H p ≡ b → A
    go true e = f e
    go false e = g e

-- what a handle of knower 0 carries, it holds
carries_held : {t : Table} {k p : ℕ} {beside xs : List ℕ} → Carries t k beside p xs → Holds t 0 (entry_of t 0 k)
unfolding holds_handle
carries_held {t} {k} m =
    let u = term_used t (entry_of t 0 k) m.names (λ z. clash (cc)) in
    handle_held t 0 k (rw (ne_eqb (entry_of t 0 k) 0 (λ z. omega (arith, u.low))) refl)

-- knower 0 holds only what is safe
abbrev pub AllSafe : (ℕ → Bool) → Table → List Turn → Type 1
AllSafe H t h = (e : ℕ) → Holds t 0 e → Safe H t h (term_in t e)

module _ (H : ℕ → Bool) where
  -- ---- which origin a list has, by its count
  module _ {t : Table} {h : List Turn} {r l : ℕ} (s : ℕ) where
    one : (n : ℕ) → Origin H t h r l → term_in t l ≡ list (n ∷ []) → term_in t n ≡ nonce r s
        → (m : ℕ) × InOrder (Starts s r m ∷ Answers r s m n ∷ Replies s r m n ∷ []) h
    one n (first u m d hu a b c w) e f = clash (cc)
    one n (second q m k d hq a b b' c w) e f = clash (cc)
    one n (third q m k hq a b w) e f =
        let eq : q ≡ s = cc in
        let ek : k ≡ n = cc in
        (m, rw (eq, ek) at w)

    two : (x y : ℕ) → Origin H t h r l → term_in t l ≡ list (x ∷ y ∷ []) → term_in t y ≡ datum s
        → (H s ≡ true) × (term_in t x ≡ nonce s r) × InOrder (Starts s r x ∷ []) h
    two x y (first u m d hu a b c w) e f =
        let eu : u ≡ s = cc in
        let em : m ≡ x = cc in
        (rw eu at hu, rw (eu, em) at b, rw (eu, em) at w)
    two x y (second q m k d hq a b b' c w) e f = clash (cc)
    two x y (third q m k hq a b w) e f = clash (cc)

    three : (x y z : ℕ) (zs : List ℕ) → Origin H t h r l → term_in t l ≡ list (x ∷ y ∷ z ∷ zs) → term_in t z ≡ datum s
        → (H s ≡ true) × (term_in t y ≡ nonce s r) × InOrder (Starts r s x ∷ Answers s r x y ∷ []) h
    three x y z zs (first u m d hu a b c w) e f = clash (cc)
    three x y z zs (second q m k d hq a b b' c w) e f =
        let eq : q ≡ s = cc in
        let em : m ≡ x = cc in
        let ek : k ≡ y = cc in
        (rw eq at hq, rw (eq, ek) at b', rw (eq, em, ek) at w)
    three x y z zs (third q m k hq a b w) e f = clash (cc)

  -- ---- a message that knower 0 hands over
  module _ {t : Table} {h : List Turn} {k p : ℕ} {beside xs : List ℕ} (m : Carries t k beside p xs) where
    pub opened : AllSafe H t h → Inside H t h p m.inner
    opened safe =
        let outer = rw m.names at (safe (entry_of t 0 k) (carries_held m)) in
        inside H p (rw m.under at (element H outer m.sealed (Memᴰ.head refl)))

    bared : Safe H t h (term_in t m.inner) → (x : ℕ) → Memᴰ x xs → Safe H t h (term_in t x)
    bared s = element H (rw m.holds at s)

  -- the nonce of v for u, both honest, alone under v's key: the run is behind it
  pub last_message : {t : Table} {h : List Turn} (v u n : ℕ) {k : ℕ} {beside : List ℕ} → AllSafe H t h → Carries t k beside v (n ∷ [])
      → term_in t n ≡ nonce v u → H v ≡ true → H u ≡ true → (m : ℕ) × InOrder (Starts u v m ∷ Answers v u m n ∷ Replies u v m n ∷ []) h
  last_message {t} {h} v u n safe took is-n hv hu = go (opened took safe)
    where
      go : Inside H t h v took.inner → (m : ℕ) × InOrder (Starts u v m ∷ Answers v u m n ∷ Replies u v m n ∷ []) h
      go (bare b) = hidden H hv hu (rw is-n at (bared took b n (Memᴰ.head refl)))
      go (from hp o) = one u n o took.holds is-n
      go (lent a q b d hp hq e sa f f') = let z = took.holds in clash (cc)

  -- ---- one request
  module _ (zero : H 0 ≡ false) (x : Turn) (g : Grows x.before x.after) (h : List Turn) (safe : AllSafe H x.before h) where
    abbrev Later : Term → Type 1
    Later y = Safe H x.after (h then x) y

    abbrev LaterAt : ℕ → Type 1
    LaterAt e = Later (term_in x.after e)

    lasting : (e : ℕ) → Safe H x.before h (term_in x.before e) → LaterAt e
    lasting e s = safe_lasts H g x e s

    derived : (e : ℕ) → Derived x.before x.after e → LaterAt e
    derived e (stored d q) = rw q safe_datum
    derived e (made q) = rw q (safe_nonce (inl zero))
    derived e (listed xs q f) = rw q (safe_list (λ y i. lasting y (safe y (f y i))))
    derived e (projected l xs hl q i) = lasting e (element H (rw q at (safe l hl)) e i)
    derived e (encrypted k l q hl) = rw q (safe_cipher (lasting l (safe l hl)))
    derived e (decrypted k c p hk qk hc qc) = lasting e (reveal H p (rw qk at (safe k hk)) (rw qc at (safe c hc)))

    -- what goes out is as safe as the ciphertext that it carries
    abbrev Sent : {k q : ℕ} {xs : List ℕ} → Carries x.after k [] q xs → Type 1
    Sent {q = q} c = Later (ciphertext (public_key_of q) c.inner)

    handed : {k q : ℕ} {xs : List ℕ} (c : Carries x.after k [] q xs) → Sent c → Hands x k → AllSafe H x.after (h then x)
    handed {k} c s only e i = go (only e i)
      where
        go : Holds x.before 0 e ⊎ (e ≡ entry_of x.after 0 k) → LaterAt e
        go (inl j) = lasting e (safe e j)
        go (inr q) =
            rw (q, c.names) (safe_list (λ y m.
            let z : y ≡ c.sealed = Memᴰ.eq_of_singleton m in
            rw (z, c.under) s))

    -- a nonce for one who isn't honest, and a name
    nonce_safe : (n a b : ℕ) → term_in x.after n ≡ nonce a b → H b ≡ false → LaterAt n
    nonce_safe n a b q hb = rw q (safe_nonce (inr hb))

    name_safe : (d p : ℕ) → term_in x.after d ≡ datum p → LaterAt d
    name_safe d p q = rw q safe_datum

    -- a start has the first origin, if the peer is honest
    started : (u v m : ℕ) → H u ≡ true → (s : Starts u v m x) → Sent s.carries
    started u v m hu s = by_honest H v
        (λ hv. sealed v refl hv (first u m s.name hu s.carries.holds s.is_nonce s.is_name (lastly (Starts u v m) x s {h = h} none)))
        (λ hv. safe_cipher (rw s.carries.holds (safe_list
        (each_cons LaterAt (nonce_safe m u v s.is_nonce hv) (each_cons LaterAt (name_safe s.name u s.is_name) (each_none LaterAt))))))

    -- an answer met a first origin, or what anybody may know: counts rule out the others
    answered : (v u m n y : ℕ) (beside : List ℕ) → H v ≡ true → (s : Answers v u m n x) → Carries x.before s.given beside v (m ∷ y ∷ [])
        → term_in x.before y ≡ datum u → Sent s.carries
    answered v u m n y beside hv s took is_y = go (opened took safe)
      where
        -- where m is safe, all is, unless u is honest
        known : Safe H x.before h (term_in x.before m) → Sent s.carries
        known sm = by_honest H u
            (λ hu. foreign u m v n s.name refl hu hv s.carries.holds (lasting m sm) s.is_nonce s.is_name)
            (λ hu. safe_cipher (rw s.carries.holds (safe_list (each_cons LaterAt (lasting m sm)
            (each_cons LaterAt (nonce_safe n v u s.is_nonce hu) (each_cons LaterAt (name_safe s.name v s.is_name) (each_none LaterAt)))))))

        go : Inside H x.before h v took.inner → Sent s.carries
        go (bare b) = known (bared took b m (Memᴰ.head refl))
        go (from hp o) =
            let k = two u m y o took.holds is_y in
            sealed u refl k.0 (second v m n s.name hv s.carries.holds (term_keeps g m k.1 refl) s.is_nonce s.is_name
            (lastly (Answers v u m n) x s k.2))
        go (lent a q b d hp hq e sa f f') = let z = took.holds in clash (cc)

    -- a reply to an honest peer met a second origin: its nonce for that peer isn't safe
    replied : (u v m n : ℕ) → H u ≡ true → (s : Replies u v m n x) → Sent s.carries
    replied u v m n hu s = go (opened s.took safe)
      where
        took : Carries x.before s.given s.beside u (m ∷ n ∷ s.name ∷ s.others)
        took = s.took

        go : Inside H x.before h u took.inner → Sent s.carries
        go (bare b) = by_honest H v
            (λ hv. hidden H hu hv (rw s.is_nonce at (bared took b m (Memᴰ.head refl))))
            (λ hv. safe_cipher (rw s.carries.holds (safe_list
            (each_cons LaterAt (lasting n (bared took b n (Memᴰ.tail (Memᴰ.head refl)))) (each_none LaterAt)))))
        go (from hp o) =
            let k = three v m n s.name s.others o took.holds s.is_name in
            sealed v refl k.0 (third u m n hu s.carries.holds (term_keeps g n k.1 refl) (lastly (Replies u v m n) x s k.2))
        go (lent a q b d hp hq e sa f f') =
            let z = took.holds in
            let ea : a ≡ m = cc in
            let eq : q ≡ v = cc in
            hidden H hu (rw eq at hq) (rw (ea, s.is_nonce) at sa)

    -- knower 0 gets nothing that isn't safe
    pub safe_after : Moves H x → AllSafe H x.after (h then x)
    safe_after (derives a others f) = λ e i. go e (f e i)
      where
        go : (e : ℕ) → Holds x.before 0 e ⊎ Derived x.before x.after e → LaterAt e
        go e (inl j) = lasting e (safe e j)
        go e (inr d) = derived e d
    safe_after (starts u v m hu s only tells) = handed s.carries (started u v m hu s) only
    safe_after (answers v u m n y beside hv s took q only tells) = handed s.carries (answered v u m n y beside hv s took q) only
    safe_after (replies u v m n hu s only tells) = handed s.carries (replied u v m n hu s) only
    safe_after (accepts v u n hv s unhanded tells) = λ e i. lasting e (safe e (unhanded e i))
