use Rattle.ring_laws.proofs.Turning.{coefficient-sum_of}
use Rattle.ring_laws.proofs.Polynomials.{coefficient-multiple_of}
use Rattle.ring_laws.proofs.gives_coefficients.Goals as goal

pub returns-clause-of_sum : goal.returns-clause-of_sum
returns-clause-of_sum c = coefficient-sum_of

pub returns-clause-of_multiple : goal.returns-clause-of_multiple
returns-clause-of_multiple c = coefficient-multiple_of
