-- What a whole file gives: one line if it can't be played, else those of its records on a table of zeros. Assumes nothing.
use Prim.Native.Nat.{ℕ}
use mathlib.Core.Path.{◌≡◌, refl}
use mathlib.Core.Bool.{true, false}
use mathlib.Core.List.{List}
use lib.ListN.{replicate}
use Rattle.rules.specs.Table.{words_for, this_version, most_of}
use Rattle.rules.specs.Outcome.{refused}
use Rattle.rules.specs.Session.{items_of, file_fits}
use Rattle.rules.specs.Player.{line_of, lines_from, answers_to, players_table, played}

-- ---- a whole file
module _ (file : List ℕ) where
  pub unplayed : file_fits file ≡ false → line_of 0 (refused 11) ≡ played file
  unfolding played
  unplayed f = rw f refl

  pub played_all : file_fits file ≡ true → lines_from 1 (answers_to (items_of file) players_table) ≡ played file
  unfolding played
  played_all f = rw f refl

pub zeros : replicate 8208 0 ≡ players_table
unfolding players_table words_for this_version most_of
zeros = refl
