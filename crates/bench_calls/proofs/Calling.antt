-- What the two calls give in each of their ways out: the rule's own tests decide. Assumes nothing.
use Prim.Native.Nat.{ℕ, ◌≤◌, ◌<◌}
use native.Mathlib.Omega.{arith}
use mathlib.Core.Path.{◌≡◌, refl, ◌∙◌}
use mathlib.Core.List.{List}
use borrow.Author.Tests.{le-leb, lt-leb, eq-eqb, ne_eqb}
use lib.ListN.{length, replicate}
use Rattle.rules.specs.Table.{Table}
use Rattle.rules.specs.Session.{read_record}
use Rattle.rules.specs.Player.{played, most_bytes}
use Rattle.rules.specs.Calls.{too_short, play_into, keeps, performs, perform_read, perform_into}
use Rattle.rules.specs.Meaning.{asked}
use Rattle.rules.specs.declared.Command.{Command}
use Rattle.session.specs.Session.{read_as}
use Rattle.session.specs.declared.Step.{Step}
use Rattle.session.specs.declared.Step.TheVariants.{Record as Recordˢ, End, Malformed}
use Rattle.text.specs.Put.{Put}
use Rattle.text.proofs.Putting.{put_length, whole_new, whole_next, next_fits, next_past}

-- ---- K1
module _ (file : List ℕ) {out new : List ℕ} {end : ℕ} (p : Put out 0 (played file) new end) where
  pub fitting : end ≤ length out → (end ≡ (play_into file out).result) × (new ≡ (play_into file out).output)
  unfolding play_into
  fitting h =
      let f : length (played file) ≤ length out = omega (arith, next_fits h p) in
      rw (le-leb (length (played file)) (length out) f) (whole_next f p, whole_new f p)

  pub over : {zs : List ℕ} → length out < end → zs ≡ replicate (length new) 0 → (4294967295 ≡ (play_into file out).result) × (zs ≡ (play_into file out).output)
  unfolding play_into too_short
  over h z =
      let f : length out < length (played file) = omega (arith, next_past h p) in
      rw (lt-leb (length (played file)) (length out) f) (refl, z ∙ rw (put_length p))

-- an output that holds the lines of any file
pub always_fits : (file out : List ℕ) (r : ℕ) → r ≡ (play_into file out).result → length (played file) ≤ most_bytes → most_bytes ≤ length out → r ≤ most_bytes
unfolding play_into
always_fits file out r e h l =
    let f : length (played file) ≤ length out = omega arith in
    rw (e, le-leb (length (played file)) (length out) f) h

-- ---- K2
-- neither a record nor anything else that can be performed
pub no_record_read : (bytes : List ℕ) (t : Table) (out : List ℕ) (s : Step) → read_as s ≡ read_record bytes 0
    → ((c : Command) (next : ℕ) → s ≡ Recordˢ c next → ⊥) → perform_into bytes t out ≡ keeps 11 t out
unfolding perform_into perform_read read_as
no_record_read bytes t out (Recordˢ c next) e none = absurd (none c next refl)
no_record_read bytes t out End e none = rw (← e) refl
no_record_read bytes t out Malformed e none = rw (← e) refl

module _ (bytes : List ℕ) (t : Table) (out : List ℕ) (s : Step) (e : read_as s ≡ read_record bytes 0) where
  module _ {c : Command} {next : ℕ} (p : s ≡ Recordˢ c next) where
    pub more_than_one : (next ≡ length bytes → ⊥) → perform_into bytes t out ≡ keeps 11 t out
    unfolding perform_into perform_read read_as
    more_than_one n = rw (← e, p, ne_eqb next (length bytes) n) refl

    pub no_room : next ≡ length bytes → length out < 4 → perform_into bytes t out ≡ keeps 12 t out
    unfolding perform_into perform_read read_as
    no_room n l = rw (← e, p, eq-eqb next (length bytes) n, lt-leb 4 (length out) l) refl

    pub one_record : next ≡ length bytes → 4 ≤ length out → perform_into bytes t out ≡ performs (asked c) t out
    unfolding perform_into perform_read read_as
    one_record n l = rw (← e, p, eq-eqb next (length bytes) n, le-leb 4 (length out) l) refl
