use Rattle.member_checks.specs.Facts.{IsFaulty}
use Rattle.member_checks.proofs.Finding.{NoneBelow}
use Rattle.member_checks.proofs.cards.first_fault.Given as goal

abbrev pub invariant-loop-index : goal.invariant-loop-index
invariant-loop-index l = NoneBelow l.cards IsFaulty l.index
