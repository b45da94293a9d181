use Rattle.reference_member.proofs.CardsSpelled.{owner-or-collision}
use Rattle.reference_member.proofs.OwnersThere.{owner-there}
use Rattle.reference_member.proofs.laws.owners_are_there.Goals as goal

pub returns : goal.returns
returns g c = record { by_cards = owner-there g.K.Kem; after_steps = owner-or-collision g.K.Kem }
