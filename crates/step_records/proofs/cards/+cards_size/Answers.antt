use Rattle.std.proofs.Common.{rules, arith}
use Rattle.step_records.proofs.CardBytes.{first_in, rest_in}
use Rattle.step_records.proofs.cards.+cards_size.Goals as goal

pub card_size-requires : goal.card_size-requires
card_size-requires t c = c.requires.spelled c.card-item.result (first_in c.args.cards.now c.card-item.result (omega arith) c.card-item.is)

pub cards_size-requires : goal.cards_size-requires
cards_size-requires t c = (search rules, ((λ card i. c.requires.spelled card (rest_in c.args.cards.now card i)), search rules))
