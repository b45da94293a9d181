use Rattle.ring_laws.proofs.Polynomials.{sum_within, multiple_within}
use Rattle.ring_laws.proofs.bounds_sums.Goals as goal

pub returns-clause-of_sum : goal.returns-clause-of_sum
returns-clause-of_sum c = sum_within

pub returns-clause-of_multiple : goal.returns-clause-of_multiple
returns-clause-of_multiple c = multiple_within
