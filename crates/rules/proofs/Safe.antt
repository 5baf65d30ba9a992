-- What knower 0 may hold in a table with a history: nothing from which a nonce of two honest participants could be had. A ciphertext with
-- such a nonce is safe only if it was made by an honest participant, in a run that the history shows so far. Assumes nothing.
use Prim.Native.Nat.{ℕ}
use native.Mathlib.Omega.{arith}
use mathlib.Core.Path.{◌≡◌, refl, sym, ◌∙◌}
use mathlib.Core.Logic.{◌⊎◌, inl, inr}
use mathlib.Core.Bool.{Bool, true, false}
use mathlib.Core.List.{List, [], ◌∷◌, Memᴰ}
use Rattle.rules.specs.Table.{Table}
use Rattle.rules.specs.Terms.{Term, datum, nonce, list, ciphertext, secret_key, public_key, public_key_of}
use Rattle.rules.specs.Handshake.{term_in, Turn, InOrder, Starts, Answers, Replies}
use Rattle.rules.proofs.Logic.{never}
use Rattle.rules.proofs.Grows.{Grows}
use Rattle.rules.proofs.Reading.{is_blank, term_keeps}
use Rattle.rules.proofs.Orders.{◌then◌, still}

-- H names the honest
module _ (H : ℕ → Bool) where
  -- list l, under honest p's key, was made by an honest participant in a run that the history shows up to there
  pub data Origin (t : Table) (h : List Turn) (p l : ℕ) : Type 1 where
    first : (u m d : ℕ) → H u ≡ true → term_in t l ≡ list (m ∷ d ∷ []) → term_in t m ≡ nonce u p → term_in t d ≡ datum u
        → InOrder (Starts u p m ∷ []) h → Origin t h p l
    second : (q m n d : ℕ) → H q ≡ true → term_in t l ≡ list (m ∷ n ∷ d ∷ []) → term_in t m ≡ nonce p q → term_in t n ≡ nonce q p
        → term_in t d ≡ datum q → InOrder (Starts p q m ∷ Answers q p m n ∷ []) h → Origin t h p l
    third : (q m n : ℕ) → H q ≡ true → term_in t l ≡ list (n ∷ []) → term_in t n ≡ nonce p q
        → InOrder (Starts q p m ∷ Answers p q m n ∷ Replies q p m n ∷ []) h → Origin t h p l

  -- a term that knower 0 may hold
  pub data Safe (t : Table) (h : List Turn) : Term → Type 1 where
    safe_datum : {d : ℕ} → Safe t h (datum d)
    safe_nonce : {a b : ℕ} → (H a ≡ false) ⊎ (H b ≡ false) → Safe t h (nonce a b)
    safe_list : {xs : List ℕ} → ((x : ℕ) → Memᴰ x xs → Safe t h (term_in t x)) → Safe t h (list xs)
    safe_cipher : {k l : ℕ} → Safe t h (term_in t l) → Safe t h (ciphertext k l)
    sealed : {k l : ℕ} (p : ℕ) → k ≡ public_key_of p → H p ≡ true → Origin t h p l → Safe t h (ciphertext k l)
    -- honest q's answer to honest p, whose first element anybody may know
    foreign : {k l : ℕ} (p x q n d : ℕ) → k ≡ public_key_of p → H p ≡ true → H q ≡ true → term_in t l ≡ list (x ∷ n ∷ d ∷ [])
        → Safe t h (term_in t x) → term_in t n ≡ nonce q p → term_in t d ≡ datum q → Safe t h (ciphertext k l)
    safe_secret : {p : ℕ} → H p ≡ false → Safe t h (secret_key p)
    safe_public : {p : ℕ} → Safe t h (public_key p)

  -- ---- a safe term, taken apart
  module _ {t : Table} {h : List Turn} where
    pub element : {xs : List ℕ} → Safe t h (list xs) → (x : ℕ) → Memᴰ x xs → Safe t h (term_in t x)
    element (safe_list f) = f

    leaks : {a b : ℕ} → Safe t h (nonce a b) → (H a ≡ false) ⊎ (H b ≡ false)
    leaks (safe_nonce f) = f

    -- a nonce of two honest participants isn't safe
    pub hidden {ℓ} : {A : Type ℓ} {a b : ℕ} → H a ≡ true → H b ≡ true → Safe t h (nonce a b) → A
    hidden {A = A} {a} {b} p q s = go (leaks s)
      where
        go : (H a ≡ false) ⊎ (H b ≡ false) → A
        go (inl e) = never p e
        go (inr e) = never q e

    -- an entry past the used ones isn't safe
    solid : {x : Term} → Safe t h x → is_blank x ≡ false
    solid safe_datum = refl
    solid (safe_nonce f) = refl
    solid (safe_list f) = refl
    solid (safe_cipher s) = refl
    solid (sealed p k hp o) = refl
    solid (foreign p x q n d k hp hq a s b c) = refl
    solid (safe_secret f) = refl
    solid safe_public = refl

  -- what stands in list l of a safe ciphertext under p's key
  pub data Inside (t : Table) (h : List Turn) (p l : ℕ) : Type 1 where
    bare : Safe t h (term_in t l) → Inside t h p l
    from : H p ≡ true → Origin t h p l → Inside t h p l
    lent : (x q n d : ℕ) → H p ≡ true → H q ≡ true → term_in t l ≡ list (x ∷ n ∷ d ∷ []) → Safe t h (term_in t x) → term_in t n ≡ nonce q p
        → term_in t d ≡ datum q → Inside t h p l

  same_key : (p q : ℕ) → public_key_of p ≡ public_key_of q → p ≡ q
  unfolding public_key_of
  same_key p q e = omega arith

  under : {t : Table} {h : List Turn} {k l : ℕ} (p : ℕ) → k ≡ public_key_of p → Safe t h (ciphertext k l) → Inside t h p l
  under p e (safe_cipher s) = bare s
  under p e (sealed q f hq o) =
      let z : q ≡ p = same_key q p (sym f ∙ e) in
      from (rw z at hq) (rw z at o)
  under p e (foreign r x q n d f hr hq a s b c) =
      let z : r ≡ p = same_key r p (sym f ∙ e) in
      lent x q n d (rw z at hr) hq a s (rw z at b) c

  pub inside : {t : Table} {h : List Turn} (p : ℕ) {l : ℕ} → Safe t h (ciphertext (public_key_of p) l) → Inside t h p l
  inside p s = under p refl s

  -- a secret key in hand opens nothing that isn't safe
  pub reveal : {t : Table} {h : List Turn} (p : ℕ) {l : ℕ} → Safe t h (secret_key p) → Safe t h (ciphertext (public_key_of p) l) → Safe t h (term_in t l)
  reveal {t} {h} p {l} k c = go (inside p c)
    where
      opens : Safe t h (secret_key p) → H p ≡ false
      opens (safe_secret f) = f

      go : Inside t h p l → Safe t h (term_in t l)
      go (bare s) = s
      go (from hp o) = never hp (opens k)
      go (lent x q n d hp hq a s b e) = never hp (opens k)

  -- ---- safety lasts, since terms stay and histories only grow
  module _ {t t' : Table} (g : Grows t t') {h : List Turn} (y : Turn) where
    origin_lasts : {p l : ℕ} → Origin t h p l → Origin t' (h then y) p l
    origin_lasts (first u m d hu a b c w) =
        first u m d hu (term_keeps g _ a refl) (term_keeps g _ b refl) (term_keeps g _ c refl) (still y w)
    origin_lasts (second q m n d hq a b b' c w) =
        second q m n d hq (term_keeps g _ a refl) (term_keeps g _ b refl) (term_keeps g _ b' refl) (term_keeps g _ c refl) (still y w)
    origin_lasts (third q m n hq a b w) = third q m n hq (term_keeps g _ a refl) (term_keeps g _ b refl) (still y w)

    moved : (e : ℕ) → Safe t h (term_in t e) → Safe t' (h then y) (term_in t e) → Safe t' (h then y) (term_in t' e)
    moved e old s = rw (term_keeps g e refl (solid old)) s

    lasts : {x : Term} → Safe t h x → Safe t' (h then y) x
    lasts safe_datum = safe_datum
    lasts (safe_nonce f) = safe_nonce f
    lasts (safe_list f) = safe_list (λ x i. moved x (f x i) (lasts (f x i)))
    lasts (safe_cipher {l = l} s) = safe_cipher (moved l s (lasts s))
    lasts (sealed p k hp o) = sealed p k hp (origin_lasts o)
    lasts (foreign p x q n d k hp hq a s b c) =
        foreign p x q n d k hp hq (term_keeps g _ a refl) (moved x s (lasts s)) (term_keeps g _ b refl) (term_keeps g _ c refl)
    lasts (safe_secret f) = safe_secret f
    lasts safe_public = safe_public

    pub safe_lasts : (e : ℕ) → Safe t h (term_in t e) → Safe t' (h then y) (term_in t' e)
    safe_lasts e s = moved e s (lasts s)
