use Rattle.std.proofs.Common.{◌≡◌, map, take}
use Rattle.group_fields.specs.Cards.{card_id}
use Rattle.welcome_history.proofs.cards.card_ids.Given as goal

-- the ids of the cards so far
abbrev pub invariant-loop-index : goal.invariant-loop-index
invariant-loop-index l = map (λ id. id.0.0) l.ids.items ≡ map card_id (take l.index l.welcome.cards)
