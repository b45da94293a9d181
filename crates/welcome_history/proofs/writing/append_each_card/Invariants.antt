use Rattle.std.proofs.Common.{List, take}
use Rattle.group_fields.specs.Cards.{card}
use Rattle.group_fields.specs.LayoutWrites.{Appends}
use Rattle.group_fields.specs.declared.card.Card.{Card}
use Rattle.wire_codec.specs.Repeated.{repeated}
use Rattle.welcome_history.specs.Welcomes.{AreFirstCards}
use Rattle.welcome_history.proofs.writing.append_each_card.Given as goal

-- the cards of the ids so far
abbrev pub invariant-loop-id : goal.invariant-loop-id
invariant-loop-id l = (cards : List Card) × AreFirstCards l.history (take l.id-index l.ids) cards
    × Appends (repeated l.id-index card) cards l.initial.into.items l.into.items
