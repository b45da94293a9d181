use Rattle.std.proofs.Common.{◌≡◌, true, take}
use Rattle.group_fields.specs.declared.card.Card.{Card}
use Rattle.group_model.specs.Sets.{In}
use Rattle.welcome_history.proofs.cards_held.have_public_keys.Given as goal

-- the keys of the cards so far are public keys
abbrev pub invariant-loop-index : goal.invariant-loop-index
invariant-loop-index g l =
    (card : Card) → In card (take l.index l.welcome.cards) → g.K.Kem.is_public card.kem_public ≡ true
