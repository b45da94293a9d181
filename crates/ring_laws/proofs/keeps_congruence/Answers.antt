use Rattle.ring_laws.proofs.Polynomials.{products_congruent, sums_congruent, multiples_congruent}
use Rattle.ring_laws.proofs.keeps_congruence.Goals as goal

pub returns-clause-of_products : goal.returns-clause-of_products
returns-clause-of_products c = products_congruent

pub returns-clause-of_sums : goal.returns-clause-of_sums
returns-clause-of_sums c = sums_congruent

pub returns-clause-of_multiples : goal.returns-clause-of_multiples
returns-clause-of_multiples c = multiples_congruent
