-- `text::line` meets its contract: the record's number, then each answer's word and its values.
use mathlib.Core.List.{[], ◌∷◌}
use Rattle.rules.specs.Player.{ascii, word_of}
use Rattle.rules.specs.Meaning.{said}
use Rattle.text.proofs.Putting.{line_put}
use Rattle.text.proofs.line.Goals as goal

pub returns-in-Ok-Ready : goal.returns-in-Ok-Ready
unfolding said word_of ascii
returns-in-Ok-Ready c = rw (c.in-Ok-Ready.is, rw c.in-Ok-Ready.is at c.in-Ok-Ready.field-0-is)
    (line_put _ 1 (_ ∷ []) c.number-after.ensures c.rest.ensures)

pub returns-in-Ok-Sent : goal.returns-in-Ok-Sent
unfolding said word_of ascii
returns-in-Ok-Sent c = rw (c.in-Ok-Sent.is, rw c.in-Ok-Sent.is at c.in-Ok-Sent.field-0-is)
    (line_put _ 2 (_ ∷ _ ∷ _ ∷ []) c.number-after.ensures c.rest-in-Ok-Sent.ensures)

pub returns-in-Ok-Accepted : goal.returns-in-Ok-Accepted
unfolding said word_of ascii
returns-in-Ok-Accepted c = rw (c.in-Ok-Accepted.is, rw c.in-Ok-Accepted.is at c.in-Ok-Accepted.field-0-is)
    (line_put _ 3 (_ ∷ _ ∷ []) c.number-after.ensures c.rest-in-Ok-Accepted.ensures)

pub returns-in-Ok-Dropped : goal.returns-in-Ok-Dropped
unfolding said word_of ascii
returns-in-Ok-Dropped c = rw (c.in-Ok-Dropped.is, rw c.in-Ok-Dropped.is at c.in-Ok-Dropped.field-0-is)
    (line_put _ 4 [] c.number-after.ensures c.rest-in-Ok-Dropped.ensures)

pub returns-in-Ok-Handle : goal.returns-in-Ok-Handle
unfolding said word_of ascii
returns-in-Ok-Handle c = rw (c.in-Ok-Handle.is, rw c.in-Ok-Handle.is at c.in-Ok-Handle.field-0-is)
    (line_put _ 5 (_ ∷ []) c.number-after.ensures c.rest-in-Ok-Handle.ensures)

pub returns-in-Ok-Parsed : goal.returns-in-Ok-Parsed
unfolding said word_of ascii
returns-in-Ok-Parsed c = rw (c.in-Ok-Parsed.is, rw c.in-Ok-Parsed.is at c.in-Ok-Parsed.field-0-is)
    (line_put _ 6 (_ ∷ _ ∷ _ ∷ []) c.number-after.ensures c.rest-in-Ok-Parsed.ensures)

pub returns-in-Err : goal.returns-in-Err
unfolding said word_of ascii
returns-in-Err c = rw c.in-Err.is
    (line_put _ 7 (_ ∷ []) c.number-after.ensures c.rest-in-Err.ensures)
