use Rattle.ring_laws.proofs.Polynomials.{centred_same, centred_nonzero}
use Rattle.ring_laws.proofs.separates_centred_lists.Goals as goal

pub returns-clause-equal : goal.returns-clause-equal
returns-clause-equal c = centred_same

pub returns-clause-nonzero : goal.returns-clause-nonzero
returns-clause-nonzero c = centred_nonzero
