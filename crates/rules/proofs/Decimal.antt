-- How a number in decimal goes on: below ten it is one digit, and else its higher digits and its last. Assumes nothing.
use Prim.Native.Nat.{ℕ, zero, suc, ◌+◌, ◌/◌, ◌%◌, ◌≤◌, ◌<◌}
use native.Mathlib.Omega.{arith}
use native.Mathlib.Decide.{dec_lt}
use mathlib.Core.Path.{◌≡◌, refl}
use mathlib.Core.List.{[], ◌∷◌, ◌++◌}
use borrow.Author.Tests.{lt-ltb, le-ltb}
use Rattle.rules.specs.Player.{digits, decimal}

-- any number of steps that is at least as large gives the same digits
digits_same : (f g n : ℕ) → n ≤ f → n ≤ g → digits f n ≡ digits g n
unfolding digits
digits_same zero zero n p q = refl
digits_same zero (suc g) n p q = rw (lt-ltb n 10 (omega arith))
digits_same (suc f) zero n p q = rw (lt-ltb n 10 (omega arith))
digits_same (suc f) (suc g) n p q = go (dec_lt n 10) (digits_same f g (n / 10))
  where
    go : Dec (n < 10) → (n / 10 ≤ f → n / 10 ≤ g → digits f (n / 10) ≡ digits g (n / 10)) → digits (suc f) n ≡ digits (suc g) n
    go (yes h) r = rw (lt-ltb n 10 h)
    go (no h) r = rw (le-ltb n 10 (omega arith), r (omega arith) (omega arith))

pub decimal_small : (n : ℕ) → n < 10 → decimal n ≡ (48 + n) ∷ []
unfolding decimal digits
decimal_small zero h = refl
decimal_small (suc n) h = rw (lt-ltb (suc n) 10 h)

pub decimal_more : (n : ℕ) → 10 ≤ n → decimal n ≡ decimal (n / 10) ++ ((48 + n % 10) ∷ [])
unfolding decimal digits
decimal_more zero h = absurd (omega arith)
decimal_more (suc n) h = rw (le-ltb (suc n) 10 h, digits_same n (suc n / 10) (suc n / 10) (omega arith) (omega arith))
