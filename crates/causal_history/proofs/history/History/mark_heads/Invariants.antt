use Rattle.causal_history.specs.Bits.{mark}
use Rattle.causal_history.specs.Rows.{history_of}
use Rattle.causal_history.proofs.HeadMarks.{HeadsBelow}
use Rattle.causal_history.proofs.history.History.mark_heads.Given as goal

abbrev pub invariant-loop-at : goal.invariant-loop-at
invariant-loop-at l = HeadsBelow (history_of l.self) (mark l.of) (mark l.followed) (mark l.into) l.at
