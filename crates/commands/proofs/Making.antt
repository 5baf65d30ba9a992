-- The new entries of a datum and of a nonce, by the numbers that the code hands over (rules C1 and C2). Assumes nothing.
use Prim.Native.Nat.{ℕ}
use mathlib.Core.Path.{◌≡◌, refl}
use mathlib.Core.List.{[], ◌∷◌}
use Rattle.rules.specs.Table.{Table}
use Rattle.rules.specs.Terms.{datum, nonce, type_of, arguments_of, numbers_of, datum_length, nonce_length, length_of, new_entry, add_entry}
use Rattle.rules.specs.Outcome.{need_room, gives_handle}
use Rattle.rules.specs.Commands.{give_new}
use Rattle.rows.specs.Row.{seven}
use Rattle.commands.proofs.Ways.{gives_new}

pub new_datum : (t : Table) (d : ℕ)
    → give_new t (datum d) ≡ need_room t (2 ∷ []) (gives_handle (add_entry t (seven 1 1 (d ∷ 0 ∷ 0 ∷ 0 ∷ []) 2)) (new_entry t))
unfolding type_of arguments_of numbers_of datum_length length_of seven
new_datum t d = gives_new t (datum d) 2 (seven 1 1 (d ∷ 0 ∷ 0 ∷ 0 ∷ []) 2) refl refl

pub new_nonce_lem : (t : Table)
    → give_new t (nonce 0 0) ≡ need_room t (8 ∷ []) (gives_handle (add_entry t (seven 2 2 (0 ∷ 0 ∷ 0 ∷ 0 ∷ []) 8)) (new_entry t))
unfolding type_of arguments_of numbers_of nonce_length length_of seven
new_nonce_lem t = gives_new t (nonce 0 0) 8 (seven 2 2 (0 ∷ 0 ∷ 0 ∷ 0 ∷ []) 8) refl refl
