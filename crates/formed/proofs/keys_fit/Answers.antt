-- `formed::keys_fit` meets its contract: the two entries are the rule's, and their numbers are small.
use Prim.Native.Nat.{ℕ}
use native.Mathlib.Omega.{arith}
use mathlib.Core.Path.{◌≡◌, refl, ◌∙◌}
use Rattle.rules.specs.Table.{Table}
use Rattle.rules.specs.Terms.{secret_key_type, public_key_type, secret_key_of, public_key_of}
use Rattle.rules.specs.WellFormed.{is_secret_key_of, is_public_key_of, keys_fit}
use Rattle.rules.proofs.Logic.{and_stops, and_goes}
use Rattle.rules.proofs.Words.{most_high}
use Rattle.formed.specs.Keys.{named_for, is_key_of}
use Rattle.formed.proofs.keys_fit.Goals as goal

-- the rule's two keys are this key of either type
secret_is : (t : Table) (p e : ℕ) → is_key_of t secret_key_type p e ≡ is_secret_key_of t p e
unfolding is_key_of named_for is_secret_key_of
secret_is t p e = refl

public_is : (t : Table) (p e : ℕ) → is_key_of t public_key_type p e ≡ is_public_key_of t p e
unfolding is_key_of named_for is_public_key_of
public_is t p e = refl

pub overflow_mul-p : goal.overflow_mul-p
overflow_mul-p c = omega (arith, most_high c.args.t.now)

pub overflow_mul-p-then-is_key_of : goal.overflow_mul-p-then-is_key_of
overflow_mul-p-then-is_key_of c = omega (arith, most_high c.args.t.now)

pub returns-then-is_key_of : goal.returns-then-is_key_of
unfolding keys_fit secret_key_of public_key_of
returns-then-is_key_of c =
    and_goes (c.is_key_of.ensures ∙ secret_is _ _ _) c.if-is_key_of.true (c.is_key_of-then-is_key_of.ensures ∙ public_is _ _ _)

pub returns-else-is_key_of : goal.returns-else-is_key_of
unfolding keys_fit secret_key_of
returns-else-is_key_of c = c.if-is_key_of.false ∙ and_stops _ (c.is_key_of.ensures ∙ secret_is _ _ _) c.if-is_key_of.false
