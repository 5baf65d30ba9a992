-- `formed::Owner::is_named` meets its contract: the test of the type is the definition's.
use mathlib.Core.Path.{◌≡◌, sym}
use mathlib.Core.Bool.{Bool}
use lib.Dec.{eqb}
use denote.Enum.Bare.{sameb}
use Rattle.rules.specs.contracts.Kind.{the_type}
use Rattle.rules.specs.declared.Kind.{Kind}
use Rattle.rules.specs.declared.Kind.TheVariants.{Data, Nonce, List, Ciphertext, SecretKey, PublicKey}
use Rattle.rules.specs.Meaning.{number_of}
use Rattle.rules.specs.Terms.{secret_key_type}
use Rattle.formed.specs.Keys.{named_for}
use Rattle.formed.proofs.Owner.is_named.Goals as goal

-- the answer of a test for the secret keys' type is the number's
by_number : (k : Kind) (b : Bool) → b ≡ sameb the_type k SecretKey → eqb (number_of k) secret_key_type ≡ b
by_number Data b = sym
by_number Nonce b = sym
by_number List b = sym
by_number Ciphertext b = sym
by_number SecretKey b = sym
by_number PublicKey b = sym

pub returns-then-eq : goal.returns-then-eq
unfolding named_for
returns-then-eq c = rw (by_number c.args.kind _ c.if-eq.ensures) c.holds_secret_key.ensures

pub returns-else-eq : goal.returns-else-eq
unfolding named_for
returns-else-eq c = rw (by_number c.args.kind _ c.if-eq.ensures) c.holds_public_key.ensures
