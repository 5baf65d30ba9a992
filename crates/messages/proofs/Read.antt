-- What is read of a delivered list tells its values apart: it has a way back. And the meaning of each, as the code takes it apart.
-- Assumes nothing.
use Rattle.std.specs.Prelude.{Bool, true, false, Option, Some, None, if◌then◌else◌}
use Rattle.std.specs.Bool.{then_some}
use mathlib.Core.Path.{◌≡◌, refl, sym, ap, ◌∙◌}
use Rattle.rules.specs.Steps.{Message, first, second, third, none}
use Rattle.messages.specs.declared.Message.{Message as Messageᶜ}
use Rattle.messages.specs.declared.Message.TheVariants.{First, Second, Third}
use Rattle.messages.specs.Reading.{taken_for, read_as}

abbrev pub unread : Message → Option Messageᶜ
unread (first x1) = Some (First (record { 0 = x1 }))
unread (second x2) = Some (Second (record { 0 = x2 }))
unread third = Some Third
unread none = None

pub read_back : (o : Option Messageᶜ) → unread (read_as o) ≡ o
unfolding read_as taken_for
read_back (Some (First x1)) = refl
read_back (Some (Second x2)) = refl
read_back (Some Third) = refl
read_back None = refl

-- two that mean the same are the same
pub read_injective : (a b : Option Messageᶜ) → read_as a ≡ read_as b → a ≡ b
read_injective a b q = sym (read_back a) ∙ ap unread q ∙ read_back b

-- ---- what is read off
pub reads_none : (o : Option Messageᶜ) → o ≡ None → read_as o ≡ none
unfolding read_as
reads_none o q = rw q refl

pub reads_taken : (o : Option Messageᶜ) (m : Messageᶜ) → o ≡ Some m → read_as o ≡ taken_for m
unfolding read_as
reads_taken o m q = rw q refl

-- a message that is taken only where a test passes
pub read_if : (b : Bool) (m : Messageᶜ) (o : Option Messageᶜ) → o ≡ then_some b m → read_as o ≡ (if b then taken_for m else none)
unfolding read_as
read_if true m o q = rw q refl
read_if false m o q = rw q refl
