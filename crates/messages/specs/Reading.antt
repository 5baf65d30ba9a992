-- What an opened message means by the rules (rule N5).
use Rattle.std.specs.Prelude.{Option, Some, None}
use Rattle.rules.specs.Steps.{Message, first, second, third, none}
use Rattle.messages.specs.declared.Message.{Message as Messageᶜ}
use Rattle.messages.specs.declared.Message.TheVariants.{First, Second, Third}

unfoldable pub taken_for : Messageᶜ → Message
taken_for (First x1) = first x1.0
taken_for (Second x2) = second x2.0
taken_for Third = third

unfoldable pub read_as : Option Messageᶜ → Message
read_as (Some m) = taken_for m
read_as None = none
