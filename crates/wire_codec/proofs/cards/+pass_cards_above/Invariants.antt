use Rattle.wire_codec.proofs.cards.+pass_cards_above.Given as goal

abbrev pub decreases-pass_cards_above : goal.decreases-pass_cards_above
decreases-pass_cards_above l = l.count
