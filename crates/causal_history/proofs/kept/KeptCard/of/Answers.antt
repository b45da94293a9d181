use Rattle.std.proofs.Common.{sym, subst}
use Rattle.group_fields.specs.Cards.{Spells}
use Rattle.causal_history.proofs.SpelledFacts.{card_spelled-is}
use Rattle.causal_history.proofs.kept.KeptCard.of.Goals as goal

pub invariant_of-result : goal.invariant_of-result
invariant_of-result c =
    subst (λ z. Spells z c.in_ok-bytes.bytes) (sym (card_spelled-is c.in_ok-bytes.bytes c.args.card.now c.in_ok-bytes.ensures.spells))
    c.in_ok-bytes.ensures.spells

pub returns : goal.returns
returns c = card_spelled-is c.in_ok-bytes.bytes c.args.card.now c.in_ok-bytes.ensures.spells
