use Rattle.causal_history.proofs.ListMore.{item-in}
use Rattle.causal_history.proofs.kept.KeptRow.of.Goals as goal

pub of-requires-in-loop-card : goal.of-requires-in-loop-card
of-requires-in-loop-card c = c.requires c.card-item.result
    (item-in c.args.cards.now c.loop-card.card-index c.card-item.result c.loop-card-test.true c.card-item.is)
