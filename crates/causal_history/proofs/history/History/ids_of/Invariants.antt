use Rattle.causal_history.specs.Bits.{mark}
use Rattle.causal_history.specs.Followed.{AreIdsOf}
use Rattle.causal_history.specs.Rows.{history_of}
use Rattle.causal_history.proofs.history.History.ids_of.Given as goal

abbrev pub invariant-loop-at : goal.invariant-loop-at
invariant-loop-at l = AreIdsOf (history_of l.self) (mark l.of) l.at l.ids.items
