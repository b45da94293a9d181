use Rattle.member_checks.specs.Facts.{IsOfOther}
use Rattle.member_checks.proofs.Finding.{NoneBelow}
use Rattle.member_checks.proofs.cards.first_of_other.Given as goal

abbrev pub invariant-loop-index : goal.invariant-loop-index
invariant-loop-index l = NoneBelow l.cards (IsOfOther l.me.0.0) l.index
