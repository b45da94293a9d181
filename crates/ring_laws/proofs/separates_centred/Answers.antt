use Rattle.ring_laws.proofs.Polynomials.{centred_equal}
use Rattle.ring_laws.proofs.separates_centred.Goals as goal

pub returns : goal.returns
returns c = centred_equal
