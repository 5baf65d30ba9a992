-- When a function's written contract leaves no choice: it asks nothing of the caller, and whoever meets it gives one result and one set
-- of last values of everything lent. A contract whose clauses are plain facts is so, if the facts say so. Assumes nothing.
use Rattle.std.specs.Prelude.{◌≡◌, List, [], ◌∷◌}
use Rattle.std.proofs.Common.{sym, ap, ◌∙◌}
use seplogic.Ra.Ura.{Ura}
use base.Logic.{SProp, ent, sep, emp, id⊢, via, fst∗, snd∗}
use prog.Memory.{Memory}
use prog.Routine.{Routine}
use types.Logic.{Logic}
use contract.Monad.{Fun, fact, fact_i, fact_use}
use contract.Lifetimes.{Lfts}
use denote.Triple.Entry.{Args, Res}
use denote.Triple.Clauses.{Ended, Clauses, Lasts, AtExit, at_exit}
use borrow.Fn.World.{World, Pr}

-- what the checker makes of a written contract, for every model of memory
abbrev pub Written : Ended → Type 2
Written T = (M : Type 1) (𝓤 : Ura M) (𝓛 : Logic 𝓤) → (Memory → SProp 𝓤) → (Routine → Fun 𝓤) → Clauses 𝓤 T

abbrev pub at : (T : Ended) → Written T → (w : World) → Clauses w.𝓤 T
at T c w = c w.M w.𝓤 w.𝓛 w.𝓜.mem w.𝓡.run

-- asks: a caller has nothing to show. only: who has the clauses twice, at one input, has equal results and equal last values
pub record Tight (T : Ended) (c : Written T) : Type 2 where
  pub asks :
      (w : World) (κs : Lfts T.signature.lifetimes) (a : Args T.signature κs) (g : (at T c w κs a).ghost)
      → ent w.𝓤 (emp w.𝓤) ((at T c w κs a).requires g)
  pub only :
      (w : World) (κs : Lfts T.signature.lifetimes) (a : Args T.signature κs) (g g' : (at T c w κs a).ghost)
      (z z' : Res T.signature κs) (l l' : Lasts T κs a)
      → ent w.𝓤
      (sep w.𝓤 ((at T c w κs a).ensures g z (at_exit T κs a l)) ((at T c w κs a).ensures g' z' (at_exit T κs a l')))
      (fact w.𝓤 ((z ≡ z') × (l ≡ l')))

-- ---- contracts whose clauses are facts, one or more
module _ (T : Ended) where
  -- a fact of the input, the result and what is lent, at exit
  abbrev pub Claim : Type 1
  Claim = (κs : Lfts T.signature.lifetimes) (a : Args T.signature κs) → Res T.signature κs → AtExit T κs → Type 0

  -- the facts together, as plain facts and as the assertion that the clauses make of them
  abbrev pub Facts :
      (κs : Lfts T.signature.lifetimes) (a : Args T.signature κs) → Res T.signature κs → AtExit T κs → Claim → List Claim → Type 0
  Facts κs a z e φ [] = φ κs a z e
  Facts κs a z e φ (ψ ∷ more) = φ κs a z e × Facts κs a z e ψ more

  abbrev pub asserted :
      {M : Type 1} (𝓤 : Ura M) (κs : Lfts T.signature.lifetimes) (a : Args T.signature κs)
      → Res T.signature κs → AtExit T κs → Claim → List Claim → SProp 𝓤
  asserted 𝓤 κs a z e φ [] = fact 𝓤 (φ κs a z e)
  asserted 𝓤 κs a z e φ (ψ ∷ more) = sep 𝓤 (fact 𝓤 (φ κs a z e)) (asserted 𝓤 κs a z e ψ more)

  -- the contract that requires nothing and ensures these facts
  abbrev pub says : Claim → List Claim → Written T
  says φ more M 𝓤 𝓛 m r κs a =
      record { ghost = Unit {0}; requires = λ g. emp 𝓤; ensures = λ g z e. asserted 𝓤 κs a z e φ more }

  -- what is asserted holds as facts
  asserted_facts :
      (w : World) (κs : Lfts T.signature.lifetimes) (a : Args T.signature κs) (z : Res T.signature κs) (e : AtExit T κs)
      (φ : Claim) (more : List Claim)
      → ent w.𝓤 (asserted w.𝓤 κs a z e φ more) (fact w.𝓤 (Facts κs a z e φ more))
  asserted_facts w κs a z e φ [] = id⊢ w.𝓤 (fact w.𝓤 (φ κs a z e))
  asserted_facts w κs a z e φ (ψ ∷ more) =
      let P : Pr w = fact w.𝓤 (φ κs a z e) in
      let Q : Pr w = asserted w.𝓤 κs a z e ψ more in
      fact_use w.𝓤 (φ κs a z e) (fst∗ w.𝓤 P Q)
      (λ p. fact_use w.𝓤 (Facts κs a z e ψ more) (via w.𝓤 Q (snd∗ w.𝓤 P Q) (asserted_facts w κs a z e ψ more))
      (λ q. fact_i w.𝓤 (φ κs a z e × Facts κs a z e ψ more) (sep w.𝓤 P Q) (p, q)))

  -- the law: where the facts, had twice at one input, give equal results and last values, the contract leaves no choice
  pub law :
      (φ : Claim) (more : List Claim)
      → ((κs : Lfts T.signature.lifetimes) (a : Args T.signature κs) (z z' : Res T.signature κs) (l l' : Lasts T κs a)
      → Facts κs a z (at_exit T κs a l) φ more → Facts κs a z' (at_exit T κs a l') φ more → (z ≡ z') × (l ≡ l'))
      → Tight T (says φ more)
  law φ more unique = record {
    asks = λ w κs a g. id⊢ w.𝓤 (emp w.𝓤);
    only = λ w κs a g g' z z' l l'.
        let P : Pr w = asserted w.𝓤 κs a z (at_exit T κs a l) φ more in
        let P' : Pr w = asserted w.𝓤 κs a z' (at_exit T κs a l') φ more in
        fact_use w.𝓤 (Facts κs a z (at_exit T κs a l) φ more)
        (via w.𝓤 P (fst∗ w.𝓤 P P') (asserted_facts w κs a z (at_exit T κs a l) φ more))
        (λ p. fact_use w.𝓤 (Facts κs a z' (at_exit T κs a l') φ more)
        (via w.𝓤 P' (snd∗ w.𝓤 P P') (asserted_facts w κs a z' (at_exit T κs a l') φ more))
        (λ p'. fact_i w.𝓤 ((z ≡ z') × (l ≡ l')) (sep w.𝓤 P P') (unique κs a z z' l l' p p')));
  }

-- ---- two values of which one thing is said
pub same : {X : Type 0} {x y z : X} → x ≡ z → y ≡ z → x ≡ y
same p q = p ∙ sym q

-- the same through a definition that has a way back, as an enum's numbers have
pub same_by : {X Y : Type 0} (f : X → Y) (g : Y → X) → ((x : X) → g (f x) ≡ x) → {x y : X} {z : Y} → f x ≡ z → f y ≡ z → x ≡ y
same_by f g back {x} {y} p q = sym (back x) ∙ ap g (p ∙ sym q) ∙ back y
