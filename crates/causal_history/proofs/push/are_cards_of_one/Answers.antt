use Rattle.causal_history.proofs.PushTests.{one-card}
use Rattle.causal_history.proofs.push.are_cards_of_one.Goals as goal

pub returns-in-len1 : goal.returns-in-len1
returns-in-len1 c = one-card c.args.cards.now c.args.id.now c.card-item.result c.is_card_of.result c.in-len1.len_at_least c.in-len1.len_below
    c.card-item.is c.is_card_of.ensures
