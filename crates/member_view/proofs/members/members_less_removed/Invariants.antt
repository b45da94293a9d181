use Rattle.causal_history.specs.Bits.{bit, mark}
use Rattle.causal_history.specs.Rows.{history_of}
use Rattle.group_model.specs.Membership.{Names, Removes}
use Rattle.group_model.specs.Marks.{IsCrowd}
use Rattle.member_view.specs.Crowds.{ids_with, last_of}
use Rattle.member_view.proofs.Oldest.{so_far}
use Rattle.member_view.proofs.Crowds.{Moved}
use Rattle.member_view.proofs.members.members_less_removed.Given as goal

abbrev pub invariant-loop-index : goal.invariant-loop-index
invariant-loop-index l = record {
  named : IsCrowd (ids_with (last_of l.last) (history_of l.history)) (bit l.moves.named.0)
      (λ x. Moved Names (so_far (mark l.of) (history_of l.history) l.index) x);
  removed : IsCrowd (ids_with (last_of l.last) (history_of l.history)) (bit l.moves.removed.0)
      (λ x. Moved Removes (so_far (mark l.of) (history_of l.history) l.index) x);
}
