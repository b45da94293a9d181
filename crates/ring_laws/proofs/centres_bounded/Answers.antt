use Rattle.ring_laws.proofs.Polynomials.{centred_from_within}
use Rattle.ring_laws.proofs.centres_bounded.Goals as goal

pub returns : goal.returns
returns c = centred_from_within
