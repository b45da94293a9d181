use Rattle.std.proofs.Common.{arith}
use Rattle.step_records.proofs.CardBytes.{card-size, key-at-most}
use Rattle.step_records.proofs.cards.card_size.Goals as goal

pub overflow_add-result : goal.overflow_add-result
overflow_add-result c = let few = key-at-most c.args.card.now c.requires in omega (arith, few, c.len.ensures)

pub returns-clause-size : goal.returns-clause-size
returns-clause-size c = let size = card-size c.args.card.now c.requires in omega (arith, size, c.len.ensures)

pub returns-clause-few : goal.returns-clause-few
returns-clause-few c = let few = key-at-most c.args.card.now c.requires in omega (arith, few, c.len.ensures)
