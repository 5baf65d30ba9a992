-- How playing goes on from record to record: the lines that are done and those that are left are always the same ones together. Assumes nothing.
use Prim.Native.Nat.{ℕ, zero, suc, ◌+◌, ◌≤◌, ◌<◌}
use native.Mathlib.Omega.{arith}
use mathlib.Core.Path.{◌≡◌, refl, sym, ◌∙◌}
use mathlib.Core.Bool.{true, false}
use mathlib.Core.List.{List, [], ◌∷◌, ◌++◌, append_assoc, append-nil}
use lib.ListN.{length}
use Rattle.rules.specs.Table.{Table}
use Rattle.rules.specs.Outcome.{refused}
use Rattle.rules.specs.Machine.{perform}
use Rattle.rules.specs.Session.{found, stands_right, read_record, items_by, items_from, items_of}
use Rattle.rules.specs.Player.{line_of, lines_from, answers_to}
use Rattle.rules.specs.Meaning.{asked}
use Rattle.rules.specs.declared.Command.{Command}
use Rattle.rules.proofs.RoundTrip.{reads_end, reads_on}
use Rattle.session.specs.Session.{read_as}
use Rattle.session.specs.declared.Step.{Step}
use Rattle.session.specs.declared.Step.TheVariants.{Record as Recordˢ, End, Malformed}

-- ---- what is left of a file
-- from record number `place`, which stands at a position, on: with the lines that are done it makes all of them
pub record Left (file all : List ℕ) (at place : ℕ) (t : Table) (done : List ℕ) : Type 0 where
  pub steps : ℕ
  pub enough : length file ≤ at + steps
  pub same : done ++ lines_from place (answers_to (items_from steps file place at) t) ≡ all

pub begin : (file : List ℕ) (t : Table) → Left file (lines_from 1 (answers_to (items_of file) t)) 1 1 t []
unfolding items_of
begin file t = record { steps = length file; enough = omega arith; same = refl }

-- past the end there are no records
none_left : (steps : ℕ) (file : List ℕ) (at place : ℕ) → length file ≤ at → items_from steps file place at ≡ []
unfolding items_from items_by
none_left zero file at place h = refl
none_left (suc steps) file at place h = rw (reads_end file at h) refl

last_line : (place : ℕ) → lines_from place (refused 11 ∷ []) ≡ line_of place (refused 11)
unfolding lines_from
last_line place = append-nil (line_of place (refused 11))

module _ {file all : List ℕ} {at place : ℕ} {t : Table} {done : List ℕ} where
  pub finish : length file ≤ at → Left file all at place t done → done ≡ all
  unfolding answers_to lines_from
  finish h l = sym (append-nil done) ∙ rw (none_left l.steps file at place h) at l.same

  -- at a position within the file what stands there decides
  opened : at < length file → Left file all at place t done
      → (g : ℕ) × (length file ≤ at + suc g) × (done ++ lines_from place (answers_to (items_by (read_record file at) place (items_from g file (place + 1))) t) ≡ all)
  unfolding items_from
  opened h l = go l.steps l.enough l.same
    where
      go : (f : ℕ) → length file ≤ at + f → done ++ lines_from place (answers_to (items_from f file place at) t) ≡ all
          → (g : ℕ) × (length file ≤ at + suc g) × (done ++ lines_from place (answers_to (items_by (read_record file at) place (items_from g file (place + 1))) t) ≡ all)
      go zero e q = absurd (omega arith)
      go (suc g) e q = (g, e, q)

  module _ (h : at < length file) (l : Left file all at place t done) (s : Step) (e : read_as s ≡ read_record file at) where
    pub at_end : s ≡ End → done ≡ all
    unfolding read_as items_by answers_to lines_from
    at_end p = let o = opened h l in sym (append-nil done) ∙ rw (← e, p) at o.2

    pub at_malformed : s ≡ Malformed → done ++ line_of place (refused 11) ≡ all
    unfolding read_as items_by answers_to
    at_malformed p = let o = opened h l in rw last_line at (rw (← e, p) at o.2)

    module _ {c : Command} {next : ℕ} (p : s ≡ Recordˢ c next) where
      is_found : read_record file at ≡ found (asked c) next
      unfolding read_as
      is_found = sym e ∙ rw p refl

      pub onwards : (at + 3 ≤ next) × (next ≤ length file)
      onwards = reads_on file at (asked c) next is_found

      pub misplaced : false ≡ stands_right (asked c) place → done ++ line_of place (refused 11) ≡ all
      unfolding items_by answers_to
      misplaced b = let o = opened h l in rw last_line at (rw (is_found, ← b) at o.2)

      pub next_record : true ≡ stands_right (asked c) place
          → Left file all next (place + 1) (perform (asked c) t).table (done ++ line_of place (perform (asked c) t).answer)
      unfolding items_by answers_to lines_from
      next_record b =
          let o = opened h l in
          record {
            steps = o.0;
            enough = omega (arith, onwards, o.1);
            same =
                append_assoc done (line_of place (perform (asked c) t).answer) (lines_from (place + 1) (answers_to (items_from o.0 file (place + 1) next) (perform (asked c) t).table))
                ∙ rw (is_found, ← b) at o.2;
          }
