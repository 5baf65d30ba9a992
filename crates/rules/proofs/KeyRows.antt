-- Set-up adds the keys one after another, so each stands at the number that its owner gives it, and nothing else stands there.
-- Assumes nothing.
use Prim.Native.Nat.{ℕ, zero, suc, ◌+◌, ◌*◌, ◌-◌, ◌≤◌, ◌<◌, ◌/◌}
use native.Mathlib.Omega.{arith}
use native.Mathlib.Decide.{dec_le, ℕ_discrete}
use mathlib.Core.Path.{◌≡◌, refl, ◌∙◌}
use mathlib.Core.List.{[], ◌∷◌}
use lib.ListN.{get_or}
use Rattle.rules.specs.Table.{Table, word, capacity, used, type_at, count_at, argument, length_at}
use Rattle.rules.specs.Terms.{Term, secret_key, public_key, secret_key_length, public_key_length, secret_key_of, public_key_of, numbers_of, type_of, arguments_of, secret_key_type, public_key_type, term_at}
use Rattle.rules.specs.SetUp.{holds_secret_key, holds_public_key, add_keys, add_all_keys}
use Rattle.rules.proofs.Sized.{Sized, sized_grows}
use Rattle.rules.proofs.Counted.{Counted}
use Rattle.rules.proofs.Stands.{Stands, Extends, extends_refl, extends_trans, stands_kept, add_named, Added, named_added}

-- ---- the numbers of a key's row
pub record KeyRow (t : Table) (e y p l : ℕ) : Type 0 where
  pub kind : type_at t e ≡ y
  pub single : count_at t e ≡ 1
  pub owner : argument t e 1 ≡ p
  pub second : argument t e 2 ≡ 0
  pub third : argument t e 3 ≡ 0
  pub fourth : argument t e 4 ≡ 0
  pub bytes : length_at t e ≡ l

-- a term with one argument has such a row
pub single_row : (t : Table) (e : ℕ) (x : Term) (p l : ℕ) → arguments_of x ≡ p ∷ []
    → ((i : ℕ) → i < 7 → word t e i ≡ get_or (numbers_of x l) i 0) → KeyRow t e (type_of x) p l
unfolding numbers_of
single_row t e x p l q h = record {
  kind = h 0 (omega arith);
  single = h 1 (omega arith) ∙ rw q refl;
  owner = h 2 (omega arith) ∙ rw q refl;
  second = h 3 (omega arith) ∙ rw q refl;
  third = h 4 (omega arith) ∙ rw q refl;
  fourth = h 5 (omega arith) ∙ rw q refl;
  bytes = h 6 (omega arith) ∙ rw q refl;
}

-- and is read as that key
pub secret_term : {t : Table} {e p l : ℕ} → KeyRow t e secret_key_type p l → term_at t e ≡ secret_key p
unfolding term_at
secret_term r = rw (r.kind, r.owner) refl

pub public_term : {t : Table} {e p l : ℕ} → KeyRow t e public_key_type p l → term_at t e ≡ public_key p
unfolding term_at
public_term r = rw (r.kind, r.owner) refl

-- an entry up to 2 * n is a key of one of n participants
pub by_key {ℓ} : (P : ℕ → Type ℓ) (n : ℕ) → ((p : ℕ) → 1 ≤ p → p ≤ n → P (secret_key_of p)) → ((p : ℕ) → 1 ≤ p → p ≤ n → P (public_key_of p))
    → (e : ℕ) → 1 ≤ e → e ≤ 2 * n → P e
unfolding secret_key_of public_key_of
by_key P n f g e a b = go ((e + 1) / 2) refl (ℕ_discrete e (2 * ((e + 1) / 2)))
  where
    go : (p : ℕ) → (e + 1) / 2 ≡ p → Dec (e ≡ 2 * ((e + 1) / 2)) → P e
    go p q (yes h) = let r : e ≡ 2 * p = omega arith in rw r (g p (omega arith) (omega arith))
    go p q (no h) = let r : e ≡ 2 * p - 1 = omega arith in rw r (f p (omega arith) (omega arith))

-- ---- the keys of participants 1 to p, from a table with no entry
pub record Keyed (t : Table) (m : ℕ) (s : Table) (p : ℕ) : Type 0 where
  pub extends : Extends t s
  pub so_far : used s ≡ 2 * p
  pub counted : (k : ℕ) → Counted s k
  pub secret : (q : ℕ) → 1 ≤ q → q ≤ p → Stands s (secret_key_of q) (secret_key q) secret_key_length (holds_secret_key m q)
  pub public : (q : ℕ) → 1 ≤ q → q ≤ p → Stands s (public_key_of q) (public_key q) public_key_length (holds_public_key m)

-- participant p + 1's secret key makes a of s, and its public key makes b of a
module _ (t : Table) (m : ℕ) (s a b : Table) (p : ℕ) (d : Keyed t m s p)
    (x : Added s (secret_key (suc p)) secret_key_length (holds_secret_key m (suc p)) a)
    (y : Added a (public_key (suc p)) public_key_length (holds_public_key m) b) where
  older : Extends s b
  older = extends_trans x.extends y.extends

  secret_next : (q : ℕ) → 1 ≤ q → q ≤ suc p → Dec (q ≤ p) → Stands b (secret_key_of q) (secret_key q) secret_key_length (holds_secret_key m q)
  unfolding secret_key_of
  secret_next q i j (yes h) = stands_kept older (record { low = omega arith; high = omega (arith, d.so_far) }) (d.secret q i h)
  secret_next q i j (no h) =
      let e : q ≡ suc p = omega arith in
      let n : 2 * suc p - 1 ≡ used s + 1 = omega (arith, d.so_far) in
      rw (e, n) (stands_kept y.extends (record { low = omega arith; high = omega (arith, x.one) }) x.new)

  public_next : (q : ℕ) → 1 ≤ q → q ≤ suc p → Dec (q ≤ p) → Stands b (public_key_of q) (public_key q) public_key_length (holds_public_key m)
  unfolding public_key_of
  public_next q i j (yes h) = stands_kept older (record { low = omega arith; high = omega (arith, d.so_far) }) (d.public q i h)
  public_next q i j (no h) =
      let e : q ≡ suc p = omega arith in
      let n : 2 * suc p ≡ used a + 1 = omega (arith, d.so_far, x.one) in
      rw (e, n) y.new

  keyed_next : Keyed t m b (suc p)
  keyed_next = record {
    extends = extends_trans d.extends older;
    so_far = omega (arith, d.so_far, x.one, y.one);
    counted = y.counted;
    secret = λ q i j. secret_next q i j (dec_le q p);
    public = λ q i j. public_next q i j (dec_le q p);
  }

module _ (t : Table) (m : ℕ) (z : Sized t) where
  next_keys : (s : Table) (p : ℕ) → 2 * suc p ≤ capacity t → Keyed t m s p → Keyed t m (add_keys s m (suc p)) (suc p)
  unfolding add_keys
  next_keys s p room d = keyed_next t m s a (add_keys s m (suc p)) p d x y
    where
      a : Table
      a = add_named s (secret_key (suc p)) secret_key_length (holds_secret_key m (suc p))

      zs : Sized s
      zs = sized_grows d.extends.grows (omega (arith, d.so_far)) z

      same : capacity s ≡ capacity t
      same = d.extends.grows.head 3 (omega arith)

      x : Added s (secret_key (suc p)) secret_key_length (holds_secret_key m (suc p)) a
      x = named_added s (secret_key (suc p)) secret_key_length (holds_secret_key m (suc p)) zs (omega (arith, d.so_far, same)) d.counted

      za : Sized a
      za = sized_grows x.extends.grows (omega (arith, x.one, d.so_far, same)) zs

      y : Added a (public_key (suc p)) public_key_length (holds_public_key m) (add_keys s m (suc p))
      y = named_added a (public_key (suc p)) public_key_length (holds_public_key m) za
          (omega (arith, x.one, d.so_far, same, x.extends.grows.head 3 (omega arith))) x.counted

  pub all_keyed : used t ≡ 0 → ((k : ℕ) → Counted t k) → (p : ℕ) → 2 * p ≤ capacity t → Keyed t m (add_all_keys t m p) p
  unfolding add_all_keys
  all_keyed u c zero h = record {
    extends = extends_refl t;
    so_far = omega arith;
    counted = c;
    secret = λ q a b. absurd (omega arith);
    public = λ q a b. absurd (omega arith);
  }
  all_keyed u c (suc p) h = next_keys (add_all_keys t m p) p h (all_keyed u c p (omega arith))
