use Rattle.ring_solve.specs.Steps.{TakesRows}
use Rattle.ring_solve.proofs.eliminate.Given as goal

abbrev pub invariant-loop-r : goal.invariant-loop-r
invariant-loop-r l = TakesRows l.m l.width l.r l.residues l.basis l.kept
