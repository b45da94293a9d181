use Rattle.std.proofs.Common.{◌≡◌, drop}
use Rattle.causal_history.specs.Rows.{card_among}
use Rattle.welcome_history.proofs.creating.card_of_sender.Given as goal

-- no card before this one is the sender's
abbrev pub invariant-loop-index : goal.invariant-loop-index
invariant-loop-index l =
    card_among (drop l.index l.packet.cards) l.packet.header.sender.0.0
    ≡ card_among l.packet.cards l.packet.header.sender.0.0
