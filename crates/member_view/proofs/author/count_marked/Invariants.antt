use Rattle.std.proofs.Common.{◌≡◌, ◌≤◌}
use Rattle.causal_history.specs.Bits.{mark}
use Rattle.causal_history.specs.Rows.{history_of}
use Rattle.group_model.specs.Validity.{count_of}
use Rattle.member_view.proofs.Oldest.{so_far}
use Rattle.member_view.proofs.author.count_marked.Given as goal

abbrev pub invariant-loop-index : goal.invariant-loop-index
invariant-loop-index l = record {
  counted : l.count ≡ count_of l.author.id.0.0 (so_far (mark l.of) (history_of l.history) l.index);
  few : l.count ≤ l.index;
}
