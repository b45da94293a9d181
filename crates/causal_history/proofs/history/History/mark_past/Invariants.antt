use Rattle.std.proofs.Common.{length, ◌≤◌}
use Rattle.group_messages.specs.Messages.{ids_of}
use Rattle.causal_history.specs.Bits.{mark}
use Rattle.causal_history.specs.Rows.{history_of}
use Rattle.causal_history.proofs.Numbers.{Swept}
use Rattle.causal_history.proofs.history.History.mark_past.Given as goal

abbrev pub invariant-loop-at : goal.invariant-loop-at
invariant-loop-at l = record {
  within : l.at ≤ length l.self;
  swept : Swept (history_of l.self) (ids_of l.header.predecessors) (mark l.into) l.at;
}

abbrev pub decreases-loop-at : goal.decreases-loop-at
decreases-loop-at l = l.at
