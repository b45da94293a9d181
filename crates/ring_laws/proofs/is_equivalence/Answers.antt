use Rattle.ring_laws.proofs.Polynomials.{AreCongruent-same, AreCongruent-back, AreCongruent-then}
use Rattle.ring_laws.proofs.is_equivalence.Goals as goal

pub returns-clause-reflexive : goal.returns-clause-reflexive
returns-clause-reflexive c = AreCongruent-same

pub returns-clause-symmetric : goal.returns-clause-symmetric
returns-clause-symmetric c = AreCongruent-back

pub returns-clause-transitive : goal.returns-clause-transitive
returns-clause-transitive c = AreCongruent-then
