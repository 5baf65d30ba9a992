-- `text::rest` meets its contract: the word, then the values.
use Rattle.text.proofs.Putting.{then}
use Rattle.text.proofs.rest.Goals as goal

pub returns : goal.returns
returns c = then c.word-end.ensures c.values.ensures
