-- `entries_fit::length_of` meets its contract: each type's length is the rule's.
use mathlib.Core.Path.{◌≡◌, refl, sym}
use borrow.Author.Tests.{ne_eqb}
use Rattle.rules.specs.Meaning.{number_of}
use Rattle.rules.specs.declared.Kind.{Kind}
use Rattle.rules.specs.declared.Kind.TheVariants.{Data, Nonce, List, Ciphertext, SecretKey, PublicKey}
use Rattle.rules.specs.Table.{arguments}
use Rattle.rules.specs.Terms.{term_at, length_of, datum_length, nonce_length, list_length, ciphertext_length, secret_key_length, public_key_length}
use Rattle.entries_fit.proofs.Examined.length_of.Goals as goal

pub returns-in-Ok-Data : goal.returns-in-Ok-Data
unfolding term_at length_of datum_length
returns-in-Ok-Data c = rw (← c.args.self.now.kinds, ← rw c.in-Ok-Data.field-0-is at c.in-Ok-Data.ensures) refl

pub returns-in-Ok-Nonce : goal.returns-in-Ok-Nonce
unfolding term_at length_of nonce_length
returns-in-Ok-Nonce c = rw (← c.args.self.now.kinds, ← rw c.in-Ok-Nonce.field-0-is at c.in-Ok-Nonce.ensures) refl

pub returns-in-Ok-List : goal.returns-in-Ok-List
unfolding term_at length_of list_length
returns-in-Ok-List c = rw (← c.args.self.now.kinds, ← rw c.in-Ok-List.field-0-is at c.in-Ok-List.ensures, c.lengths_of_elements.ensures.sum) refl

pub returns-in-Ok-Ciphertext : goal.returns-in-Ok-Ciphertext
unfolding term_at length_of ciphertext_length arguments
returns-in-Ok-Ciphertext c =
    let s = c.args.self.now in
    rw (← s.kinds, ← rw c.in-Ok-Ciphertext.field-0-is at c.in-Ok-Ciphertext.ensures, c.from.ensures, c.length.ensures, s.arguments) refl

pub returns-in-Ok-SecretKey : goal.returns-in-Ok-SecretKey
unfolding term_at length_of secret_key_length
returns-in-Ok-SecretKey c = rw (← c.args.self.now.kinds, ← rw c.in-Ok-SecretKey.field-0-is at c.in-Ok-SecretKey.ensures) refl

pub returns-in-Ok-PublicKey : goal.returns-in-Ok-PublicKey
unfolding term_at length_of public_key_length
returns-in-Ok-PublicKey c = rw (← c.args.self.now.kinds, ← rw c.in-Ok-PublicKey.field-0-is at c.in-Ok-PublicKey.ensures) refl

pub returns-in-Err : goal.returns-in-Err
unfolding term_at length_of
returns-in-Err c =
    let none : (k : Kind) → c.args.self.now.kind ≡ number_of k → ⊥ = λ k q. c.in-Err.ensures k (sym q) in
    rw (
      ← c.args.self.now.kinds,
      ne_eqb c.args.self.now.kind 1 (none Data),
      ne_eqb c.args.self.now.kind 2 (none Nonce),
      ne_eqb c.args.self.now.kind 3 (none List),
      ne_eqb c.args.self.now.kind 4 (none Ciphertext),
      ne_eqb c.args.self.now.kind 5 (none SecretKey),
      ne_eqb c.args.self.now.kind 6 (none PublicKey),
    )
    refl
