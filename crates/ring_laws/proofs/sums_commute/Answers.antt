use Rattle.ring_laws.proofs.Polynomials.{sum_comm}
use Rattle.ring_laws.proofs.sums_commute.Goals as goal

pub returns : goal.returns
returns c = sum_comm
