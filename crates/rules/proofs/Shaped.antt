-- What a well-formed table is known to have, as plain facts: all that the proofs of demand 3 use of it. Assumes nothing.
use Prim.Native.Nat.{ℕ, ◌+◌, ◌*◌, ◌≤◌, ◌<◌}
use mathlib.Core.Path.{◌≡◌}
use mathlib.Core.Logic.{◌≢◌, ◌⊎◌}
use mathlib.Core.Bool.{true, false}
use mathlib.Core.List.{Memᴰ}
use Rattle.rules.specs.Table.{Table, size, most, row_width, participants, capacity, used, next_handle, type_at, count_at, argument, length_at, handle, honest}
use Rattle.rules.specs.Terms.{nonce_type, list_type, ciphertext_type, secret_key_type, public_key_type, elements, longest, nonce_length, secret_key_of, public_key_of}
use Rattle.rules.specs.Handles.{holds}

-- entry e is used
pub record Used (t : Table) (e : ℕ) : Type 0 where
  pub low : 1 ≤ e
  pub high : e ≤ used t

-- p is a participant
pub record Person (t : Table) (p : ℕ) : Type 0 where
  pub low : 1 ≤ p
  pub high : p ≤ participants t

pub record Shaped (t : Table) : Type 0 where
  -- sizes
  pub long : row_width t + row_width t * capacity t ≤ size t
  pub few : participants t ≤ most t
  pub keyed : 2 * participants t ≤ used t
  pub room : used t ≤ capacity t
  pub small : capacity t ≤ 512
  -- entries
  pub list_count : (e : ℕ) → Used t e → type_at t e ≡ list_type → (1 ≤ count_at t e) × (count_at t e ≤ 4)
  pub list_elements : (e : ℕ) → Used t e → type_at t e ≡ list_type → (x : ℕ) → Memᴰ x (elements t e)
      → (1 ≤ x) × (x < e) × (type_at t x ≢ secret_key_type)
  pub cipher_key : (e : ℕ) → Used t e → type_at t e ≡ ciphertext_type → (p : ℕ) × (Person t p) × (argument t e 1 ≡ public_key_of p)
  pub cipher_list : (e : ℕ) → Used t e → type_at t e ≡ ciphertext_type
      → (1 ≤ argument t e 2) × (argument t e 2 < e) × (type_at t (argument t e 2) ≡ list_type)
  pub secret_key : (e : ℕ) → Used t e → type_at t e ≡ secret_key_type → Person t (argument t e 1) × (e ≡ secret_key_of (argument t e 1))
  pub public_key : (e : ℕ) → Used t e → type_at t e ≡ public_key_type → Person t (argument t e 1) × (e ≡ public_key_of (argument t e 1))
  pub key_types : (p : ℕ) → Person t p
      → (type_at t (secret_key_of p) ≡ secret_key_type) × (argument t (secret_key_of p) 1 ≡ p) × (type_at t (public_key_of p) ≡ public_key_type) × (argument t (public_key_of p) 1 ≡ p)
  pub nonce_people : (e : ℕ) → Used t e → type_at t e ≡ nonce_type → (argument t e 1 ≤ participants t) × (argument t e 2 ≤ participants t)
  pub nonce_length_lem : (e : ℕ) → Used t e → type_at t e ≡ nonce_type → length_at t e ≡ nonce_length
  pub short : (e : ℕ) → Used t e → length_at t e ≤ longest
  -- handles, for every knower
  pub below : (k e : ℕ) → Used t e → handle t k e < next_handle t k
  pub next_small : (k : ℕ) → next_handle t k ≤ 1 + used t
  pub strangers : (k e : ℕ) → k ≢ 0 → honest t k ≡ false → Used t e → handle t k e ≡ 0
  pub public_held : (p k : ℕ) → Person t p → (k ≡ 0) ⊎ (honest t k ≡ true) → holds t k (public_key_of p) ≡ true
  pub secret_held : (p k : ℕ) → Person t p → honest t p ≡ true → k ≢ p → handle t k (secret_key_of p) ≡ 0
  pub secret_open : (p : ℕ) → Person t p → holds t 0 (secret_key_of p) ≡ true → honest t p ≡ false
