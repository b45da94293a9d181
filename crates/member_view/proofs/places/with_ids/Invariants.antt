use Rattle.std.proofs.Common.{take}
use Rattle.causal_history.specs.Bits.{bit}
use Rattle.causal_history.specs.Rows.{history_of}
use Rattle.group_messages.specs.Messages.{ids_of}
use Rattle.group_model.specs.Sets.{In}
use Rattle.member_view.specs.Crowds.{MorePlaces, ids_with, last_of}
use Rattle.member_view.proofs.places.with_ids.Given as goal

abbrev pub invariant-loop-index : goal.invariant-loop-index
invariant-loop-index l = MorePlaces (ids_with (last_of l.last) (history_of l.history)) (bit l.initial.wider.0) (bit l.wider.0)
    (λ x. In x (take l.index (ids_of l.ids)))
