-- The keys of one participant, step by step, and of one participant more. Assumes nothing.
use Prim.Native.Nat.{ℕ, suc, ◌-◌, ◌≤◌}
use native.Mathlib.Omega.{arith}
use mathlib.Core.Path.{◌≡◌, refl, ap, ◌∙◌}
use mathlib.Core.List.{[], ◌∷◌}
use Rattle.rules.specs.Table.{Table, most}
use Rattle.rules.specs.Terms.{secret_key, public_key, type_of, arguments_of, secret_key_length, public_key_length, new_entry, numbers_of, add_entry, create}
use Rattle.rules.specs.Handles.{grant}
use Rattle.rules.specs.SetUp.{holds_public_key, grant_named, add_keys, add_all_keys}
use Rattle.rows.specs.Row.{seven}
use Rattle.set_up.specs.Holder.{secret_holder}
use Rattle.set_up.proofs.Granting.{secret_granted}

-- the seven numbers of either key
secret_numbers : (p : ℕ) → seven 5 1 (p ∷ 0 ∷ 0 ∷ 0 ∷ []) 0 ≡ numbers_of (secret_key p) secret_key_length
unfolding seven numbers_of type_of arguments_of secret_key_length
secret_numbers p = refl

public_numbers : (p : ℕ) → seven 6 1 (p ∷ 0 ∷ 0 ∷ 0 ∷ []) 32 ≡ numbers_of (public_key p) public_key_length
unfolding seven numbers_of type_of arguments_of public_key_length
public_numbers p = refl

-- the steps of one participant
pub keys_go : (t a b c d : Table) (m p x o y : ℕ) → x ≡ new_entry t → a ≡ add_entry t (seven 5 1 (p ∷ 0 ∷ 0 ∷ 0 ∷ []) 0)
    → o ≡ secret_holder m p → b ≡ grant a o x → y ≡ new_entry b → c ≡ add_entry b (seven 6 1 (p ∷ 0 ∷ 0 ∷ 0 ∷ []) 32)
    → d ≡ grant_named c (holds_public_key m) y (most c) → d ≡ add_keys t m p
unfolding add_keys create
keys_go t a b c d m p x o y e₁ q₁ h q₂ e₂ q₃ q₄ =
    rw (← secret_numbers p, ← q₁, ← e₁, secret_granted a m p x, ← h, ← q₂, ← public_numbers p, ← q₃, ← e₂) q₄

-- no participant, and one more
pub keys_none : (t : Table) (m : ℕ) → t ≡ add_all_keys t m 0
unfolding add_all_keys
keys_none t m = refl

pub keys_more : (t s s' : Table) (m p q : ℕ) → 1 ≤ p → q ≡ p → s ≡ add_all_keys t m (p - 1) → s' ≡ add_keys s m p → s' ≡ add_all_keys t m q
unfolding add_all_keys
keys_more t s s' m p q l e d h =
    let one_more : q ≡ suc (p - 1) = omega arith in
    let back : p ≡ suc (p - 1) = omega arith in
    h ∙ rw (one_more, d) (ap (add_keys (add_all_keys t m (p - 1)) m) back)

pub ruleset turns = (keys_none, keys_more)
