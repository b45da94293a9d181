use Rattle.member_checks.specs.Facts.{IsOf}
use Rattle.member_checks.proofs.Finding.{NoneBelow}
use Rattle.member_checks.proofs.cards.first_own.Given as goal

abbrev pub invariant-loop-index : goal.invariant-loop-index
invariant-loop-index l = NoneBelow l.cards (IsOf l.me.0.0) l.index
