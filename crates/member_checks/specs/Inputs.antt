-- What is asked of what a member is given for a step.
use Rattle.std.specs.Prelude.{List}
use Rattle.group_fields.specs.Cards.{HasSpelling}
use Rattle.group_fields.specs.declared.card.Card.{Card}
use Rattle.group_model.specs.Sets.{In}
use Rattle.reference_member.specs.declared.input.Input.{Input}
use Rattle.reference_member.specs.declared.input.Input.TheVariants as inputs

-- each of the cards has a spelling
abbrev pub AreSpelled : List Card → Type 0
AreSpelled cards = (card : Card) → In card cards → HasSpelling card

-- the cards of a create have spellings
abbrev pub HasSpelledCards : Input → Type 0
HasSpelledCards (inputs.Init inviter height) = Unit {0}
HasSpelledCards (inputs.Create cards) = AreSpelled cards.now
HasSpelledCards (inputs.Add card) = Unit {0}
HasSpelledCards (inputs.Remove target) = Unit {0}
HasSpelledCards inputs.Update = Unit {0}
HasSpelledCards (inputs.Send text) = Unit {0}
HasSpelledCards (inputs.Packet packet) = Unit {0}
