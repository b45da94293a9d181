use Rattle.ring_laws.proofs.Inverses.{product_one, product_zero}
use Rattle.ring_laws.proofs.Polynomials.{sum-zero}
use Rattle.ring_laws.proofs.has_neutrals.Goals as goal

pub returns-clause-one : goal.returns-clause-one
returns-clause-one c = product_one

pub returns-clause-zero : goal.returns-clause-zero
returns-clause-zero c = sum-zero

pub returns-clause-times_zero : goal.returns-clause-times_zero
returns-clause-times_zero c = product_zero
