use Rattle.group_model.specs.Membership.{ids_named}
use Rattle.causal_history.specs.Rows.{history_of}
use Rattle.member_checks.specs.Facts.{IsKnown}
use Rattle.member_checks.proofs.Finding.{NoneBelow}
use Rattle.member_checks.proofs.cards.first_known.Given as goal

abbrev pub invariant-loop-index : goal.invariant-loop-index
invariant-loop-index l = NoneBelow l.cards (IsKnown (ids_named (history_of l.history)) l.cards) l.index
