-- `session::put_number` meets its contract: the number's two bytes take the place of two.
use Prim.Native.Nat.{ℕ, ◌/◌, ◌%◌}
use native.Mathlib.Omega.{arith}
use mathlib.Core.Path.{◌≡◌, refl, ap, ◌∙◌}
use mathlib.Core.List.{[], ◌∷◌, append_assoc}
use lib.Seq.{sets-eq}
use Rattle.std.proofs.lemmas.List.Edits.{paste_all}
use Rattle.std.proofs.lemmas.Slice.{put_mid-paste}
use Rattle.rules.specs.Session.{two_bytes}
use Rattle.session.proofs.put_number.Goals as goal

pub returns : goal.returns
unfolding two_bytes
returns c =
    let a = c.args in
    let bytes = two_bytes a.n in
    let high : a.n / 256 % 256 ≡ a.n / 256 = omega arith in
    rw (sets-eq bytes a.out.now a.at c.requires, append_assoc)
    (put_mid-paste a.at _ a.out.now _ bytes 2 (c.copy_from_slice.ensures.after ∙ c.to_be_bytes.ensures ∙ ap (λ (h : ℕ). h ∷ a.n % 256 ∷ []) high) (omega arith) refl ∙ paste_all a.out.now a.at bytes 2 refl)
