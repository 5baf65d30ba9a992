-- The calls of a C host: a whole session, and one record on the host's own table (rules K1 and K2).
use Rattle.std.specs.Prelude.{ℕ, List, ◌++◌, eqb, leb, length, take, drop, replicate, if◌then◌else◌}
use Rattle.rules.specs.Table.{Table}
use Rattle.rules.specs.Machine.{Record, perform}
use Rattle.rules.specs.Session.{Reading, found, malformed, ended, read_record}
use Rattle.rules.specs.Player.{played}

-- ---- K1: a whole session
pub record PlayCall : Type 0 where
  pub result : ℕ
  pub output : List ℕ

-- K1: the result for lines that don't fit, which stands for refusal 12
unfoldable pub too_short : ℕ
too_short = 4294967295

-- K1: the lines at the start of the output and their number; or, where they don't fit, the output zeroed
unfoldable pub play_into : List ℕ → List ℕ → PlayCall
play_into file out =
    let text = played file in
    if leb (length text) (length out) then record { result = length text; output = text ++ drop (length text) out } else
    record { result = too_short; output = replicate (length out) 0 }

-- ---- K2: one record, on a lent table, the answer into a lent run of numbers
pub record RecordCall : Type 0 where
  pub result : ℕ
  pub table : Table
  pub output : List ℕ

-- K2: an answer as four numbers, zeros after its values
unfoldable pub four_numbers : List ℕ → List ℕ
four_numbers answer = take 4 (answer ++ replicate 3 0)

-- K2: refused with a number, all as it was
abbrev pub keeps : ℕ → Table → List ℕ → RecordCall
keeps n t out = record { result = n; table = t; output = out }

-- K2: the record is performed, and its answer written
unfoldable pub performs : Record → Table → List ℕ → RecordCall
performs r t out =
    let o = perform r t in
    record { result = 0; table = o.table; output = four_numbers o.answer ++ drop 4 out }

-- K2: what was read at the start of so many bytes has to be one record that ends with them
unfoldable pub perform_read : Reading → ℕ → Table → List ℕ → RecordCall
perform_read (found r next) size t out =
    if eqb next size then (if leb 4 (length out) then performs r t out else keeps 12 t out) else keeps 11 t out
perform_read malformed size t out = keeps 11 t out
perform_read ended size t out = keeps 11 t out

unfoldable pub perform_into : List ℕ → Table → List ℕ → RecordCall
perform_into bytes t out = perform_read (read_record bytes 0) (length bytes) t out
