-- `commands::value_of` meets its contract: the types are told apart as in the rule.
use mathlib.Core.Path.{sym, ◌∙◌}
use Rattle.commands.proofs.Parsing.{value_list, value_ciphertext, value_nonce, value_first, value_none}
use Rattle.commands.proofs.value_of.Goals as goal

pub returns-in_default : goal.returns-in_default
returns-in_default c = sym (value_none _ _ _ c.kind.ensures (λ k q. c.in_default.ensures k q))

pub returns-in-Data : goal.returns-in-Data
returns-in-Data c = c.first.ensures ∙ sym (value_first _ _ _ c.kind.ensures _ c.in-Ok.ensures c.in-Data.is)

pub returns-in-List : goal.returns-in-List
returns-in-List c = c.count.ensures ∙ sym (value_list _ _ _ c.kind.ensures _ c.in-Ok.ensures c.in-List.is)

pub returns-in-Ciphertext : goal.returns-in-Ciphertext
returns-in-Ciphertext c =
    c.handle.ensures ∙ sym (value_ciphertext _ _ _ c.kind.ensures _ c.in-Ok.ensures _ c.in-Ciphertext.is c.first-key.ensures)

pub returns-in-Nonce : goal.returns-in-Nonce
returns-in-Nonce c = sym (value_nonce _ _ _ c.kind.ensures _ c.in-Ok.ensures c.in-Nonce.is)
