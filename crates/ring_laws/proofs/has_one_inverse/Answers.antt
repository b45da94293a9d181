use Rattle.ring_laws.proofs.Inverses.{inverses_congruent, inverses_equal}
use Rattle.ring_laws.proofs.has_one_inverse.Goals as goal

pub returns-clause-congruent : goal.returns-clause-congruent
returns-clause-congruent c = inverses_congruent

pub returns-clause-equal : goal.returns-clause-equal
returns-clause-equal c = inverses_equal
