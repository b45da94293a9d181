use Rattle.std.proofs.Common.{◌≡◌, drop}
use Rattle.causal_history.specs.Rows.{card_among}
use Rattle.welcome_history.proofs.cards.card_with.Given as goal

-- no card before this one is the id's
abbrev pub invariant-loop-index : goal.invariant-loop-index
invariant-loop-index l =
    card_among (drop l.index l.welcome.cards) l.id.0.0 ≡ card_among l.welcome.cards l.id.0.0
