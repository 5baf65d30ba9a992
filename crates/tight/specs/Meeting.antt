-- What meets a written contract, at the inputs of some kind: any choice of a result and of the last values of everything lent. Two that
-- meet a contract which leaves no choice agree there, since it holds of both in the closed model of memory. Assumes nothing.
use Rattle.std.specs.Prelude.{◌≡◌, List, [], ◌∷◌}
use Rattle.std.proofs.Math.Logic.{∥∥₁_map}
use base.Logic.{ent, sep, emp, via, mono∗, emp∗}
use contract.Monad.{fact, fact_i}
use contract.Lifetimes.{Lfts}
use denote.Triple.Entry.{Args, Res}
use denote.Triple.Clauses.{Ended, Lasts, AtExit, at_exit}
use borrow.Fn.World.{World, Pr, w₀}
use Rattle.tight.specs.Tight.{Written, at, Tight, Claim, Facts, asserted, says}

abbrev pub Inputs : Ended → Type 1
Inputs T = (κs : Lfts T.signature.lifetimes) → Args T.signature κs → Type 0

-- for each input, wherever it lies, in every model of memory
pub record Meeting (T : Ended) (c : Written T) (P : Inputs T) : Type 2 where
  pub gives : (κs : Lfts T.signature.lifetimes) (a : Args T.signature κs) → Res T.signature κs
  pub leaves : (κs : Lfts T.signature.lifetimes) (a : Args T.signature κs) → Lasts T κs a
  pub meets :
      (w : World) (κs : Lfts T.signature.lifetimes) (a : Args T.signature κs) (g : (at T c w κs a).ghost) → P κs a
      → ent w.𝓤 ((at T c w κs a).requires g) ((at T c w κs a).ensures g (gives κs a) (at_exit T κs a (leaves κs a)))

-- ---- a contract of facts is met where the facts hold
module _ (T : Ended) where
  pub facts_asserted :
      (w : World) (P : Pr w) (κs : Lfts T.signature.lifetimes) (a : Args T.signature κs) (z : Res T.signature κs) (e : AtExit T κs)
      (φ : Claim T) (more : List (Claim T))
      → Facts T κs a z e φ more → ent w.𝓤 P (asserted T w.𝓤 κs a z e φ more)
  facts_asserted w P κs a z e φ [] p = fact_i w.𝓤 (φ κs a z e) P p
  facts_asserted w P κs a z e φ (ψ ∷ more) p =
      via w.𝓤 (sep w.𝓤 (emp w.𝓤) P) (emp∗ w.𝓤 P)
      (mono∗ w.𝓤 (fact_i w.𝓤 (φ κs a z e) (emp w.𝓤) p.0) (facts_asserted w P κs a z e ψ more p.1))

  abbrev pub by_facts :
      (φ : Claim T) (more : List (Claim T)) (P : Inputs T)
      (gives : (κs : Lfts T.signature.lifetimes) (a : Args T.signature κs) → Res T.signature κs)
      (leaves : (κs : Lfts T.signature.lifetimes) (a : Args T.signature κs) → Lasts T κs a)
      → ((κs : Lfts T.signature.lifetimes) (a : Args T.signature κs) → P κs a
      → Facts T κs a (gives κs a) (at_exit T κs a (leaves κs a)) φ more)
      → Meeting T (says T φ more) P
  by_facts φ more P gives leaves facts = record {
    gives = gives;
    leaves = leaves;
    meets = λ w κs a g p.
        facts_asserted w (emp w.𝓤) κs a (gives κs a) (at_exit T κs a (leaves κs a)) φ more (facts κs a p);
  }

-- ---- two that meet a contract which leaves no choice
module _ {T : Ended} {c : Written T} (tight : Tight T c) {P : Inputs T} (m n : Meeting T c P)
    (κs : Lfts T.signature.lifetimes) (a : Args T.signature κs) (p : P κs a) (g : (at T c w₀ κs a).ghost) where
  abbrev ensured : Meeting T c P → Pr w₀
  ensured x = (at T c w₀ κs a).ensures g (x.gives κs a) (at_exit T κs a (x.leaves κs a))

  holds : (x : Meeting T c P) → ent w₀.𝓤 (emp w₀.𝓤) (ensured x)
  holds x = via w₀.𝓤 ((at T c w₀ κs a).requires g) (tight.asks w₀ κs a g) (x.meets w₀ κs a g p)

  both : ent w₀.𝓤 (emp w₀.𝓤) (fact w₀.𝓤 ((m.gives κs a ≡ n.gives κs a) × (m.leaves κs a ≡ n.leaves κs a)))
  both =
      via w₀.𝓤 (sep w₀.𝓤 (emp w₀.𝓤) (emp w₀.𝓤)) (emp∗ w₀.𝓤 (emp w₀.𝓤))
      (via w₀.𝓤 (sep w₀.𝓤 (ensured m) (ensured n)) (mono∗ w₀.𝓤 (holds m) (holds n))
      (tight.only w₀ κs a g g (m.gives κs a) (n.gives κs a) (m.leaves κs a) (n.leaves κs a)))

  pub agree : ∥ ((m.gives κs a ≡ n.gives κs a) × (m.leaves κs a ≡ n.leaves κs a)) ∥₁
  agree = ∥∥₁_map (both.apply w₀.𝓤.one tt) (λ h. h.0)
