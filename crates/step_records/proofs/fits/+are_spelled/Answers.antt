use Rattle.std.proofs.Common.{arith}
use Rattle.step_records.proofs.CardBytes.{first-alone, first-and-others}
use Rattle.step_records.proofs.fits.+are_spelled.Goals as goal

pub returns-then-is_spelled : goal.returns-then-is_spelled
returns-then-is_spelled t c =
    first-and-others c.args.cards.now c.card-item.result c.are_spelled.result (omega arith) c.card-item.is
    (let says = c.is_spelled.ensures in let yes = c.if-is_spelled.true in says.0 yes) c.are_spelled.ensures

pub returns-else-is_spelled : goal.returns-else-is_spelled
returns-else-is_spelled t c =
    first-alone c.args.cards.now c.card-item.result c.is_spelled.result (omega arith) c.card-item.is c.if-is_spelled.false c.is_spelled.ensures
