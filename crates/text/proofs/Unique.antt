-- Each public function's contract leaves no choice: an append decides the output and the place after it. Assumes nothing.
use mathlib.Core.Path.{ap}
use mathlib.Core.List.{[]}
use Rattle.tight.specs.Tight.{Tight, law}
use Rattle.text.proofs.Putting.{put_new, put_next}
use Rattle.text.specs.contracts as own

pub byte : Tight own.byte.ended (λ M 𝓤. own.byte.clauses)
byte = law _ _ [] (λ κs a z z' l l' p q. (put_next p q, ap (λ t. (t, l.1)) (put_new p q)))

pub word : Tight own.word.ended (λ M 𝓤. own.word.clauses)
word = law _ _ [] (λ κs a z z' l l' p q. (put_next p q, ap (λ t. (t, l.1)) (put_new p q)))

pub number : Tight own.number.ended (λ M 𝓤. own.number.clauses)
number = law _ _ [] (λ κs a z z' l l' p q. (put_next p q, ap (λ t. (t, l.1)) (put_new p q)))

pub line : Tight own.line.ended (λ M 𝓤. own.line.clauses)
line = law _ _ [] (λ κs a z z' l l' p q. (put_next p q, ap (λ t. (t, l.1)) (put_new p q)))
