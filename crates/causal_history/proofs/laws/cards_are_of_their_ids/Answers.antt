use Rattle.causal_history.proofs.LawFacts.{card-id_is, card-stays, card-of_named}
use Rattle.causal_history.proofs.laws.cards_are_of_their_ids.Goals as goal

pub returns : goal.returns
returns c = record { id = card-id_is; stays = card-stays; named = card-of_named }
