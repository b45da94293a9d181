use Rattle.std.proofs.Common.{take}
use Rattle.group_fields.specs.declared.card.Card.{Card}
use Rattle.group_model.specs.Sets.{In}
use Rattle.welcome_history.proofs.CreateCards.{Lets}
use Rattle.welcome_history.proofs.creating.all_invited.Given as goal

-- each of the cards before this one lets the sender create a group with its member
abbrev pub invariant-loop-index : goal.invariant-loop-index
invariant-loop-index g l = (card : Card) → In card (take l.index l.packet.cards)
    → Lets g.K.Kem.is_public l.packet.header.sender.0.0 card
