-- The player's contract leaves no choice: an append decides the output and the place after it. Assumes nothing.
use mathlib.Core.Path.{ap}
use mathlib.Core.List.{[], ◌∷◌}
use Rattle.tight.specs.Tight.{Tight, law}
use Rattle.text.proofs.Putting.{put_new, put_next}
use Rattle.player.specs.contracts as own

pub play : Tight own.play.ended (λ M 𝓤. own.play.clauses)
play = law _ _ (_ ∷ []) (λ κs a z z' l l' p q. (put_next p.0 q.0, ap (λ t. (l.0, (t, l.1.1))) (put_new p.0 q.0)))
