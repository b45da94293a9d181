use Rattle.ring_laws.proofs.Polynomials.{rounded_congruent, rounded_error}
use Rattle.ring_laws.proofs.rounds_by_small.Goals as goal

pub returns-clause-multiple : goal.returns-clause-multiple
returns-clause-multiple c = rounded_congruent

pub returns-clause-error : goal.returns-clause-error
returns-clause-error c = rounded_error
