-- `steps::named_length` meets its contract: the rule's sum, which fits in 32 bits.
use Rattle.std.proofs.Common.{rules}
use Rattle.rules.specs.Choice.{sum_of}
use Rattle.rules.specs.Terms.{list_length, nonce_length, datum_length}
use Rattle.rules.specs.Steps.{named_length}
use Rattle.rules.specs.Meaning.{found_at}
use Rattle.steps.proofs.named_length.Goals as goal

pub returns : goal.returns
unfolding named_length list_length nonce_length datum_length sum_of found_at
returns c = search rules
