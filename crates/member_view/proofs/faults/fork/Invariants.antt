use Rattle.causal_history.specs.Rows.{history_of}
use Rattle.group_messages.specs.Messages.{message_of}
use Rattle.member_view.specs.Rules.{ForksNone}
use Rattle.member_view.proofs.Oldest.{oldest}
use Rattle.member_view.proofs.faults.fork.Given as goal

abbrev pub invariant-loop-index : goal.invariant-loop-index
invariant-loop-index l = ForksNone (oldest (history_of l.history) l.index) (message_of l.header)
