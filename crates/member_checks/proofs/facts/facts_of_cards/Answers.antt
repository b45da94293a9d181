use Rattle.causal_history.proofs.ListMore.{item-in}
use Rattle.member_checks.proofs.facts.facts_of_cards.Goals as goal

pub facts_of_card-requires : goal.facts_of_card-requires
facts_of_card-requires g c = c.requires c.card-item.result
    (item-in c.args.cards.now c.loop-card.card-index c.card-item.result c.loop-card-test.true c.card-item.is)
