use Rattle.causal_history.specs.Rows.{history_of}
use Rattle.group_messages.specs.Messages.{ids_of}
use Rattle.group_model.specs.Membership.{ids_named}
use Rattle.member_view.proofs.Crowds.{Sought}
use Rattle.member_view.proofs.places.place_among.Given as goal

abbrev pub invariant-loop-index : goal.invariant-loop-index
invariant-loop-index l = Sought (ids_named (history_of l.history)) (ids_of l.more) l.index l.next l.id.0.0
