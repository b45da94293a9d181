use Rattle.std.proofs.Common.{None, arith}
use Rattle.group_messages.proofs.HeaderFacts.{ascends-ascending, ascending-distinct, length-ids_of}
use Rattle.group_messages.proofs.laws.predecessors_ascend.Goals as goal

pub returns-clause-ascending : goal.returns-clause-ascending
returns-clause-ascending c = λ h s. ascends-ascending None h.predecessors s.predecessors.ascending

pub returns-clause-distinct : goal.returns-clause-distinct
returns-clause-distinct c = λ h s. ascending-distinct _ (ascends-ascending None h.predecessors s.predecessors.ascending)

pub returns-clause-few : goal.returns-clause-few
returns-clause-few c = λ h s. omega (arith, length-ids_of h.predecessors, s.predecessors.few)
