use Rattle.causal_history.specs.Bits.{mark}
use Rattle.causal_history.specs.Followed.{MarksFollowed}
use Rattle.causal_history.specs.Rows.{history_of}
use Rattle.causal_history.proofs.history.History.mark_followed.Given as goal

abbrev pub invariant-loop-at : goal.invariant-loop-at
invariant-loop-at l = MarksFollowed (history_of l.self) (mark l.of) (mark l.into) l.at
