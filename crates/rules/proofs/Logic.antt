-- What tests say when they pass, and what two answers that cannot be equal give. Assumes nothing.
use Prim.Native.Nat.{ℕ, zero, suc, ◌+◌, ◌<◌}
use native.Mathlib.Omega.{arith}
use mathlib.Core.Path.{◌≡◌, refl, sym, ap, ◌∙◌, ap₂, subst}
use mathlib.Core.Logic.{◌⊎◌, inl, inr}
use mathlib.Core.Bool.{Bool, true, false}
use mathlib.Core.List.Memᴰ
use mathlib.Core.List.{List, [], ◌∷◌, ◌++◌, Memᴰ}
use lib.Dec.{T, eqb}
use lib.ListN.{length, get_or, take}
use borrow.Author.Tests.{eqb-true, eq-eqb}
use Rattle.rules.specs.Choice.{◌and◌, ◌or◌, ◌implies◌, agree, every, sum_of, same}

-- a conjunction that passes, taken apart and put together
pub and_left : (a b : Bool) → a and b ≡ true → a ≡ true
and_left true b e = refl
and_left false b e = e

pub and_right : (a b : Bool) → a and b ≡ true → b ≡ true
and_right true b e = e
and_right false b e = cc

pub both : {a b : Bool} → a ≡ true → b ≡ true → a and b ≡ true
both p q = rw (p, q)

-- in the other order, the same twice, and one beside true
pub and_swap : (a b : Bool) → a and b ≡ b and a
and_swap true true = refl
and_swap true false = refl
and_swap false true = refl
and_swap false false = refl

pub and_same : (a : Bool) → a ≡ a and a
and_same true = refl
and_same false = refl

pub or_right : (a b : Bool) → b ≡ true → a or b ≡ true
or_right true b e = refl
or_right false b e = e

-- two tests that are the same agree
pub agree_same : (a b : Bool) → a ≡ b → agree a b ≡ true
agree_same true b q = sym q
agree_same false true q = q
agree_same false false q = refl

-- a test that passes and doesn't
pub never {ℓ} : {A : Type ℓ} {b : Bool} → b ≡ true → b ≡ false → A
never {b = b} p q = absurd (subst (λ (x : Bool). T x) (sym p ∙ q) tt)

-- a test that cannot pass fails
pub fails : (b : Bool) → (b ≡ true → ⊥) → b ≡ false
fails true h = absurd (h refl)
fails false h = refl

-- two lists that are the same, taken apart
pub first_of : {x y : ℕ} {xs ys : List ℕ} → x ∷ xs ≡ y ∷ ys → x ≡ y
first_of q = cc

pub rest_of : {x y : ℕ} {xs ys : List ℕ} → x ∷ xs ≡ y ∷ ys → xs ≡ ys
rest_of q = cc

-- two lists that the test finds the same are the same
pub same_true : (xs ys : List ℕ) → same xs ys ≡ true → xs ≡ ys
unfolding same
same_true [] [] e = refl
same_true [] (y ∷ ys) e = never e refl
same_true (x ∷ xs) [] e = never e refl
same_true (x ∷ xs) (y ∷ ys) e =
    ap₂ (λ (a : ℕ) (b : List ℕ). a ∷ b)
    (eqb-true x y (and_left (eqb x y) (same xs ys) e))
    (same_true xs ys (and_right (eqb x y) (same xs ys) e))

pub same_refl : (xs : List ℕ) → same xs xs ≡ true
unfolding same
same_refl [] = refl
same_refl (x ∷ xs) = both (eq-eqb x x refl) (same_refl xs)

-- ---- implications, alternatives, and tests that agree
pub implies_use : {a b : Bool} → a implies b ≡ true → a ≡ true → b ≡ true
implies_use h p = rw p at h

pub implies_from : (a : Bool) {b : Bool} → (a ≡ true → b ≡ true) → a implies b ≡ true
implies_from true h = h refl
implies_from false h = refl

pub agree_true : (a b : Bool) → agree a b ≡ true → a ≡ b
agree_true true b h = sym h
agree_true false true h = h
agree_true false false h = refl

-- ---- tests and sums over a list
pub every_at : (f : ℕ → Bool) (xs : List ℕ) → every f xs ≡ true → (x : ℕ) → Memᴰ x xs → f x ≡ true
unfolding every
every_at f [] h x i = absurd (Memᴰ.not-nil i)
every_at f (y ∷ ys) h x i = go (Memᴰ.cases_cons i) (every_at f ys (and_right (f y) (every f ys) h) x)
  where
    go : (x ≡ y) ⊎ Memᴰ x ys → (Memᴰ x ys → f x ≡ true) → f x ≡ true
    go (inl q) r = ap f q ∙ and_left (f y) (every f ys) h
    go (inr j) r = r j

pub every_from : (f : ℕ → Bool) (xs : List ℕ) → ((x : ℕ) → Memᴰ x xs → f x ≡ true) → every f xs ≡ true
unfolding every
every_from f [] h = refl
every_from f (y ∷ ys) h = both (h y (Memᴰ.head refl)) (every_from f ys (λ x i. h x (Memᴰ.tail i)))

pub sum_same : (f g : ℕ → ℕ) (xs : List ℕ) → ((x : ℕ) → Memᴰ x xs → f x ≡ g x) → sum_of f xs ≡ sum_of g xs
unfolding sum_of
sum_same f g [] h = refl
sum_same f g (y ∷ ys) h = rw (h y (Memᴰ.head refl), sum_same f g ys (λ x i. h x (Memᴰ.tail i))) refl

pub sum_append : (f : ℕ → ℕ) (xs ys : List ℕ) → sum_of f (xs ++ ys) ≡ sum_of f xs + sum_of f ys
unfolding sum_of
sum_append f [] ys = omega arith
sum_append f (x ∷ xs) ys = omega (arith, sum_append f xs ys)

-- ---- the first numbers of a list
pub take_mem : (n : ℕ) (xs : List ℕ) (x : ℕ) → Memᴰ x (take n xs) → Memᴰ x xs
take_mem zero xs x i = absurd (Memᴰ.not-nil i)
take_mem (suc n) [] x i = i
take_mem (suc n) (y ∷ ys) x i = go (Memᴰ.cases_cons i) (take_mem n ys x)
  where
    go : (x ≡ y) ⊎ Memᴰ x (take n ys) → (Memᴰ x (take n ys) → Memᴰ x ys) → Memᴰ x (y ∷ ys)
    go (inl q) r = Memᴰ.head q
    go (inr j) r = Memᴰ.tail (r j)

pub mem_take : (n : ℕ) (xs : List ℕ) (i : ℕ) → i < n → i < length xs → Memᴰ (get_or xs i 0) (take n xs)
mem_take n [] i a b = absurd (omega arith)
mem_take zero (x ∷ xs) i a b = absurd (omega arith)
mem_take (suc n) (x ∷ xs) zero a b = Memᴰ.head refl
mem_take (suc n) (x ∷ xs) (suc i) a b = Memᴰ.tail (mem_take n xs i (omega arith) (omega arith))

-- ---- what holds of every member of a list
module _ {ℓ} (P : ℕ → Type ℓ) where
  pub each_none : (x : ℕ) → Memᴰ x [] → P x
  each_none x i = absurd (Memᴰ.not-nil i)

  pub each_cons : {y : ℕ} {ys : List ℕ} → P y → ((x : ℕ) → Memᴰ x ys → P x) → (x : ℕ) → Memᴰ x (y ∷ ys) → P x
  each_cons {y} {ys} p f x i = go (Memᴰ.cases_cons i)
    where
      go : (x ≡ y) ⊎ Memᴰ x ys → P x
      go (inl q) = rw q p
      go (inr j) = f x j

  pub each_append : (xs : List ℕ) {ys : List ℕ} → ((x : ℕ) → Memᴰ x xs → P x) → ((x : ℕ) → Memᴰ x ys → P x)
      → (x : ℕ) → Memᴰ x (xs ++ ys) → P x
  each_append xs {ys} f g x i = go (Memᴰ.append_cases xs i)
    where
      go : Memᴰ x xs ⊎ Memᴰ x ys → P x
      go (inl j) = f x j
      go (inr j) = g x j

-- ---- a test that code makes: r is what it found of a, and it goes by whether r is false
pub found_false : {r a : Bool} → r ≡ a → r ≡ false → a ≡ false
found_false p q = sym p ∙ q

pub found_true : {r a : Bool} → r ≡ a → r ≡ true → a ≡ true
found_true p q = sym p ∙ q

-- such tests one after another, left at the first that fails
pub and_stops : {r a : Bool} (b : Bool) → r ≡ a → r ≡ false → false ≡ a and b
and_stops b p q = rw (found_false p q) refl

pub and_goes : {r a b x : Bool} → r ≡ a → r ≡ true → x ≡ b → x ≡ a and b
and_goes p q h = rw (found_true p q) h
