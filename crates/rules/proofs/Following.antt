-- Every request is a move: on a table that is well formed it is one of the adversary's commands or an honest step, and any other table is
-- refused. Assumes nothing.
use Prim.Native.Nat.{ℕ}
use mathlib.Core.Path.{◌≡◌}
use mathlib.Core.Bool.{Bool}
use mathlib.Core.List.{[], ◌∷◌}
use Rattle.rules.specs.Table.{Table, honest}
use Rattle.rules.specs.WellFormed.{well_formed}
use Rattle.rules.specs.Machine.{Request, Start, Deliver, Store, Nonce, MakeList, Project, Encrypt, Decrypt, Parse, act, step}
use Rattle.rules.proofs.Shaped.{Shaped}
use Rattle.rules.proofs.Shaping.{shaped}
use Rattle.rules.proofs.Needs.{by_need}
use Rattle.rules.proofs.Moves.{Followed, refuses}
use Rattle.rules.proofs.Deriving.{follow_store, follow_nonce, follow_list, follow_project, follow_encrypt, follow_decrypt, follow_parse}
use Rattle.rules.proofs.Stepping.{follow_start, follow_deliver}

module _ (H : ℕ → Bool) (t : Table) (same : (p : ℕ) → honest t p ≡ H p) where
  follow_act : Shaped t → (r : Request) → Followed H t r (act r t)
  unfolding act
  follow_act sh (Start u v) = follow_start H t sh same u v
  follow_act sh (Deliver s r h) = follow_deliver H t sh same s r h
  follow_act sh (Store d) = follow_store H t sh (Store d) d
  follow_act sh Nonce = follow_nonce H t sh Nonce
  follow_act sh (MakeList k a b c d) = follow_list H t sh (MakeList k a b c d) k (a ∷ b ∷ c ∷ d ∷ [])
  follow_act sh (Project h i) = follow_project H t sh (Project h i) h i
  follow_act sh (Encrypt k l) = follow_encrypt H t sh (Encrypt k l) k l
  follow_act sh (Decrypt k c) = follow_decrypt H t sh (Decrypt k c) k c
  follow_act sh (Parse h) = follow_parse H t sh (Parse h) h

  pub followed : (r : Request) → Followed H t r (step r t)
  unfolding step
  followed r = by_need (Followed H t r) (well_formed t) 1 t (act r t) (λ w. follow_act (shaped t w) r) (refuses H t r 1)
