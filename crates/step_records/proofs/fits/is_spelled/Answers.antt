use Rattle.std.proofs.Common.{arith}
use Rattle.group_fields.specs.Cards.{spelling}
use Rattle.group_fields.proofs.CardBytes.{spelled_has}
use Rattle.step_records.proofs.CardBytes.{has-bytes}
use Rattle.step_records.proofs.fits.is_spelled.Goals as goal

pub returns : goal.returns
returns c =
    let card = c.args.card.now in
    let says = c.has_spelling.ensures in (
      λ yes. has-bytes card (says.0 yes) (omega arith) (omega arith) (omega arith),
      λ has. says.1 (spelled_has card (spelling card) has),
    )
