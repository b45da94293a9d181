use Rattle.std.proofs.Common.{length, ◌≤◌}
use Rattle.causal_history.specs.Bits.{mark}
use Rattle.causal_history.specs.Rows.{history_of}
use Rattle.member_view.proofs.Waits.{OlderSwept}
use Rattle.member_view.proofs.waiting.mark_older.Given as goal

abbrev pub invariant-loop-index : goal.invariant-loop-index
invariant-loop-index l = record {
  within : l.index ≤ length l.history;
  swept : OlderSwept (history_of l.history) (mark l.of) l.id.0.0 (mark l.into) l.index;
}

abbrev pub decreases-loop-index : goal.decreases-loop-index
decreases-loop-index l = l.index
