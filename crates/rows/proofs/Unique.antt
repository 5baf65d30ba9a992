-- Each public function's contract leaves no choice: it is an equation for what the result says and one for the run that is lent.
-- Assumes nothing.
use mathlib.Core.Path.{refl, ap}
use mathlib.Core.List.{[]}
use Rattle.tight.specs.Tight.{Tight, law, same, same_by}
use Rattle.rules.specs.Meaning.{found_at}
use Rattle.rules.proofs.Meaning.{unfound, found_back}
use Rattle.rows.specs.contracts as own

pub most : Tight own.most.ended (λ M 𝓤. own.most.clauses)
most = law _ _ [] (λ κs a z z' l l' p q. (same p q, refl))

pub row_width : Tight own.row_width.ended (λ M 𝓤. own.row_width.clauses)
row_width = law _ _ [] (λ κs a z z' l l' p q. (same p q, refl))

pub word : Tight own.word.ended (λ M 𝓤. own.word.clauses)
word = law _ _ [] (λ κs a z z' l l' p q. (same p q, refl))

pub put : Tight own.put.ended (λ M 𝓤. own.put.clauses)
put = law _ _ [] (λ κs a z z' l l' p q. (refl, ap (λ t. (t, l.1)) (same p q)))

pub write_entry : Tight own.write_entry.ended (λ M 𝓤. own.write_entry.clauses)
write_entry = law _ _ [] (λ κs a z z' l l' p q. (refl, ap (λ t. (t, l.1)) (same p q)))

pub participants : Tight own.participants.ended (λ M 𝓤. own.participants.clauses)
participants = law _ _ [] (λ κs a z z' l l' p q. (same p q, refl))

pub mask : Tight own.mask.ended (λ M 𝓤. own.mask.clauses)
mask = law _ _ [] (λ κs a z z' l l' p q. (same p q, refl))

pub capacity : Tight own.capacity.ended (λ M 𝓤. own.capacity.clauses)
capacity = law _ _ [] (λ κs a z z' l l' p q. (same p q, refl))

pub used : Tight own.used.ended (λ M 𝓤. own.used.clauses)
used = law _ _ [] (λ κs a z z' l l' p q. (same p q, refl))

pub next_with : Tight own.next_with.ended (λ M 𝓤. own.next_with.clauses)
next_with = law _ _ [] (λ κs a z z' l l' p q. (same_by found_at unfound found_back p q, refl))

pub kind : Tight own.kind.ended (λ M 𝓤. own.kind.clauses)
kind = law _ _ [] (λ κs a z z' l l' p q. (same p q, refl))

pub count : Tight own.count.ended (λ M 𝓤. own.count.clauses)
count = law _ _ [] (λ κs a z z' l l' p q. (same p q, refl))

pub first : Tight own.first.ended (λ M 𝓤. own.first.clauses)
first = law _ _ [] (λ κs a z z' l l' p q. (same p q, refl))

pub second : Tight own.second.ended (λ M 𝓤. own.second.clauses)
second = law _ _ [] (λ κs a z z' l l' p q. (same p q, refl))

pub third : Tight own.third.ended (λ M 𝓤. own.third.clauses)
third = law _ _ [] (λ κs a z z' l l' p q. (same p q, refl))

pub length : Tight own.length.ended (λ M 𝓤. own.length.clauses)
length = law _ _ [] (λ κs a z z' l l' p q. (same p q, refl))
