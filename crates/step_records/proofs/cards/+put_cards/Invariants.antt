use Rattle.step_records.proofs.cards.+put_cards.Given as goal

abbrev pub decreases-put_cards : goal.decreases-put_cards
decreases-put_cards l = l.count
