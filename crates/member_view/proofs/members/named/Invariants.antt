use Rattle.causal_history.specs.Bits.{bit, mark}
use Rattle.causal_history.specs.Rows.{history_of}
use Rattle.group_model.specs.Membership.{Names, ids_named}
use Rattle.group_model.specs.Marks.{IsCrowd}
use Rattle.member_view.proofs.Oldest.{so_far}
use Rattle.member_view.proofs.Crowds.{Moved}
use Rattle.member_view.proofs.members.named.Given as goal

abbrev pub invariant-loop-index : goal.invariant-loop-index
invariant-loop-index l = IsCrowd (ids_named (history_of l.history)) (bit l.crowd.0)
    (λ x. Moved Names (so_far (mark l.of) (history_of l.history) l.index) x)
