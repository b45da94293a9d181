use Rattle.std.proofs.Common.{take}
use Rattle.causal_history.specs.Rows.{history_of}
use Rattle.group_model.specs.Membership.{ids_named}
use Rattle.add_ops.specs.Moves.{SendersForgotten}
use Rattle.add_ops.proofs.joining.forget_senders.Given as goal

-- the senders of the rows so far are forgotten
abbrev pub invariant-loop-index : goal.invariant-loop-index
invariant-loop-index g l = SendersForgotten g.K.Kem (ids_named (history_of l.history)) (history_of (take l.index l.history)) l.initial.book l.book
