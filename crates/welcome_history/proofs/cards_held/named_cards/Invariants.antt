use Rattle.std.proofs.Common.{◌≡◌, map, take, drop}
use Rattle.group_fields.specs.Cards.{card_id}
use Rattle.causal_history.specs.Bits.{bit}
use Rattle.welcome_history.proofs.CardsHeld.{AreMarked}
use Rattle.welcome_history.proofs.cards_held.named_cards.Given as goal

-- the indices of the ids that the rows so far name, and the rows that are left
abbrev pub invariant-loop-index : goal.invariant-loop-index
invariant-loop-index l = record {
  marked : AreMarked (map card_id l.welcome.cards) l.welcome.cards (take l.index l.welcome.rows) (bit l.seen.0);
  rows : l.rows ≡ drop l.index l.welcome.rows;
}
