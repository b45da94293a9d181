use Rattle.std.proofs.Common.{take}
use Rattle.group_messages.specs.Messages.{ids_of}
use Rattle.causal_history.specs.Rows.{AreCardsOf}
use Rattle.causal_history.proofs.push.are_cards_of_ids.Given as goal

abbrev pub invariant-loop-at : goal.invariant-loop-at
invariant-loop-at l = AreCardsOf (take l.at (ids_of l.ids)) (take l.at l.cards)
