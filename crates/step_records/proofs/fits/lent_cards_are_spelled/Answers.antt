use Rattle.std.proofs.Common.{List, ℕ, subst}
use Rattle.group_fields.specs.Cards.{Spells}
use Rattle.group_fields.proofs.CardBytes.{spelling_is}
use Rattle.step_records.proofs.fits.lent_cards_are_spelled.Goals as goal

pub returns : goal.returns
returns c =
    let card = c.args.card.now in
    subst (λ (b : List ℕ). Spells card b) (spelling_is card c.bytes-bytes.result.now c.bytes-bytes.ensures) c.bytes-bytes.ensures
