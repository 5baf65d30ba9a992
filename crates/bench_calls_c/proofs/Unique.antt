-- Each call's contract leaves no choice: it is an equation for the result and one for each run that is lent. Assumes nothing.
use mathlib.Core.Path.{ap}
use mathlib.Core.List.{[], ◌∷◌}
use Rattle.tight.specs.Tight.{Tight, law, same}
use Rattle.bench_calls_c.specs.contracts as own

pub bench_play : Tight own.bench_play.ended (λ M 𝓤. own.bench_play.clauses)
bench_play = law _ _ (_ ∷ _ ∷ []) (λ κs a z z' l l' p q. (same p.0 q.0, ap (λ t. (l.0, (t, l.1.1))) (same p.1.0 q.1.0)))

pub bench_perform : Tight own.bench_perform.ended (λ M 𝓤. own.bench_perform.clauses)
bench_perform =
    law _ _ (_ ∷ _ ∷ [])
    (λ κs a z z' l l' p q. (
      same p.0 q.0,
      λ i. (l.0, (same p.1.0 q.1.0 i, (same p.1.1 q.1.1 i, l.1.1.1))),
    ))
