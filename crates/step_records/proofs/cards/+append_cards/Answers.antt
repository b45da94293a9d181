use Rattle.std.proofs.Common.{rules, arith}
use Rattle.step_records.proofs.CardBytes.{first_in, rest_in}
use Rattle.step_records.proofs.cards.+append_cards.Goals as goal

pub append_card-requires : goal.append_card-requires
append_card-requires t c = c.requires c.card-item.result (first_in c.args.cards.now c.card-item.result (omega arith) c.card-item.is)

pub append_cards-requires : goal.append_cards-requires
append_cards-requires t c = (search rules, λ card i. c.requires card (rest_in c.args.cards.now card i))
