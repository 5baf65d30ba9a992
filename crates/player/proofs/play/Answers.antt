-- `player::play` meets its contract: a file that can't be played has its one line, any other those of its records on a table of zeros;
-- and it is a file of bytes.
use mathlib.Core.Path.{sym, ◌∙◌, ap}
use native.Mathlib.Omega.{arith}
use Rattle.rules.specs.Session.{items_of}
use Rattle.rules.specs.Player.{lines_from, answers_to}
use Rattle.rules.specs.Meaning.{said}
use Rattle.rules.specs.Table.{Table}
use Rattle.rules.specs.WellFormed.{well_formed}
use Rattle.rules.proofs.Bytes.{lines_within}
use Rattle.rules.proofs.Sessions.{zeros_bad}
use Rattle.text.proofs.Putting.{put_as}
use Rattle.player.proofs.WholeFile.{unplayed, played_all, zeros}
use Rattle.player.proofs.play.Goals as goal

pub returns-then-not-file_fits : goal.returns-then-not-file_fits
unfolding said
returns-then-not-file_fits c = let q = unplayed _ (sym c.file_fits.ensures ∙ c.if-not-file_fits.true) in
    let bytes = c.type_inv.file in
    record { put = put_as q c.line.ensures; small = lines_within _ (λ i. omega (arith, bytes i)) }

pub records-requires : goal.records-requires
records-requires c = ap well_formed zeros ∙ zeros_bad

pub returns : goal.returns
returns c = let f = sym c.file_fits.ensures ∙ c.if-not-file_fits.false in
    let file = c.args.file.now in
    let q = ap (λ (t : Table). lines_from 1 (answers_to (items_of file) t)) zeros ∙ played_all file f in
    let bytes = c.type_inv.file in
    record { put = put_as q c.records.ensures; small = lines_within file (λ i. omega (arith, bytes i)) }
