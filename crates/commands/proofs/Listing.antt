-- The ways that making a list goes (rule C3). Assumes nothing.
use Prim.Native.Nat.{ℕ, ◌+◌, ◌≤◌, ◌<◌}
use native.Mathlib.Omega.{arith}
use mathlib.Core.Path.{◌≡◌, refl, sym, ap, ◌∙◌}
use mathlib.Core.Bool.{true, false}
use mathlib.Core.List.{List, [], ◌∷◌, ◌++◌, map}
use lib.ListN.{length, get_or, take, replicate, length-take}
use Rattle.rules.specs.Choice.{every, sum_of}
use Rattle.rules.specs.Table.{Table, length_at}
use Rattle.rules.specs.Terms.{list, type_of, arguments_of, numbers_of, list_length, length_of, new_entry, add_entry, find_list}
use Rattle.rules.specs.Handles.{entry_of, holds_handle}
use Rattle.rules.specs.Outcome.{gives, refused, need_room, gives_handle}
use Rattle.rules.specs.Commands.{give_new, give_found_or_new, list_is_asked, may_be_listed, make_list_of, make_list}
use Rattle.rules.specs.declared.Entry.{Entry}
use Rattle.rules.proofs.Needs.{need_goes}
use Rattle.rows.specs.Row.{seven}
use Rattle.terms.specs.Elements.{numbers}
use Rattle.terms.proofs.Numbers.{number_at, numbers_length}
use Rattle.commands.proofs.Ways.{need_fails, gives_new}

-- ---- of entries
module _ (t : Table) (xs : List ℕ) where
  pub secret_listed : every (may_be_listed t) xs ≡ false → make_list_of t xs ≡ gives (refused 6) t
  unfolding make_list_of
  secret_listed p = need_fails 6 t _ p

  pub none_secret : every (may_be_listed t) xs ≡ true → make_list_of t xs ≡ give_found_or_new t (find_list t xs) (list xs)
  unfolding make_list_of
  none_secret p = need_goes 6 t _ p

-- the new list of the first n of four entries, after which there are zeros; ns are the four numbers
pub new_list : (t : Table) (n : ℕ) (es : List Entry) (ns : List ℕ) (s : ℕ) → n ≤ 4 → length es ≡ 4 → ((i : ℕ) → i < 4 → get_or ns i 0 ≡ number_at es i)
    → numbers es ≡ take 4 (take n (numbers es) ++ replicate 4 0) → s ≡ sum_of (length_at t) (take n (numbers es))
    → give_new t (list (take n (numbers es)))
    ≡ need_room t ((2 + s) ∷ []) (gives_handle (add_entry t (seven 3 n ns (2 + s))) (new_entry t))
unfolding type_of arguments_of numbers_of list_length length_of seven
new_list t n es ns s l four at zeros sum =
    gives_new t (list (take n (numbers es))) (2 + s) (seven 3 n ns (2 + s))
    (ap (λ (x : ℕ). 2 + x) (sym sum))
    (rw (count, ← zeros, at 0 (omega arith), at 1 (omega arith), at 2 (omega arith), at 3 (omega arith)) (ap (λ (ys : List ℕ). 3 ∷ n ∷ ys) (go es four)))
  where
    count : length (take n (numbers es)) ≡ n
    count = length-take n (numbers es) ∙ omega (arith, numbers_length es)

    go : (es : List Entry) → length es ≡ 4 → numbers es ++ ((2 + s) ∷ []) ≡ number_at es 0 ∷ number_at es 1 ∷ number_at es 2 ∷ number_at es 3 ∷ (2 + s) ∷ []
    go [] h = absurd (omega arith)
    go (a ∷ []) h = absurd (omega arith)
    go (a ∷ b ∷ []) h = absurd (omega arith)
    go (a ∷ b ∷ c ∷ []) h = absurd (omega arith)
    go (a ∷ b ∷ c ∷ d ∷ []) h = refl
    go (a ∷ b ∷ c ∷ d ∷ e ∷ es) h = absurd (omega arith)

-- ---- of handles
module _ (t : Table) (k : ℕ) (hs : List ℕ) where
  pub unasked_list : list_is_asked k hs ≡ false → make_list t k hs ≡ gives (refused 4) t
  unfolding make_list
  unasked_list p = need_fails 4 t _ p

  pub unheld_list : list_is_asked k hs ≡ true → every (holds_handle t 0) (take k hs) ≡ false → make_list t k hs ≡ gives (refused 5) t
  unfolding make_list
  unheld_list p q = need_goes 4 t _ p ∙ need_fails 5 t _ q

  pub held_list : (xs : List ℕ) → list_is_asked k hs ≡ true → every (holds_handle t 0) (take k hs) ≡ true → xs ≡ map (entry_of t 0) (take k hs)
      → make_list t k hs ≡ make_list_of t xs
  unfolding make_list
  held_list xs p q r = need_goes 4 t _ p ∙ need_goes 5 t _ q ∙ ap (make_list_of t) (sym r)
