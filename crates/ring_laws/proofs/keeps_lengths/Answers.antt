use Rattle.ring_poly.proofs.WindowSums.{length-product}
use Rattle.ring_laws.proofs.Turning.{length-sum_of}
use Rattle.ring_laws.proofs.Polynomials.{length-multiple_of}
use Rattle.ring_laws.proofs.keeps_lengths.Goals as goal

pub returns-clause-of_product : goal.returns-clause-of_product
returns-clause-of_product c = length-product

pub returns-clause-of_sum : goal.returns-clause-of_sum
returns-clause-of_sum c = length-sum_of

pub returns-clause-of_multiple : goal.returns-clause-of_multiple
returns-clause-of_multiple c = length-multiple_of
