-- `commands::decrypt` meets its contract: both handles are looked up before either entry is read.
use mathlib.Core.Path.{refl}
use Rattle.rules.specs.Commands.{decrypt_of, decrypt}
use Rattle.rules.proofs.Needs.{ends}
use Rattle.commands.proofs.Ways.{went_on, stopped, refusal}
use Rattle.commands.proofs.Sealing.{two_unheld, two_held}
use Rattle.commands.proofs.decrypt.Goals as goal

pub returns-in_err-key : goal.returns-in_err-key
unfolding decrypt
returns-in_err-key c =
    let none = stopped _ _ _ c.ok_or.ensures.value _ c.in_err-key.was in
    let answer = refusal _ _ _ c.ok_or.ensures.value _ c.in_err-key.was c.from_residual.result c.from_residual.ensures.1 in
    let both = ends (two_unheld c.args.t.now c.args.key.0 c.args.ciphertext.0 (decrypt_of _) _ c.look_up_two.ensures none) (answer, refl) in
    record { answer = both.0; table = both.1 }

pub returns : goal.returns
unfolding decrypt
returns c =
    let some = went_on _ _ _ c.ok_or.ensures.value _ c.in_ok-key.was in
    let both = ends
    (two_held c.args.t.now c.args.key.0 c.args.ciphertext.0 (decrypt_of _) _ c.look_up_two.ensures _ _ some)
    (c.decrypt_of.ensures.answer, c.decrypt_of.ensures.table) in
    record { answer = both.0; table = both.1 }
