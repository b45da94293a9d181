use Rattle.std.proofs.Common.{◌∷◌, take}
use Rattle.group_model.specs.Membership.{ids_named}
use Rattle.group_messages.specs.Messages.{message_of}
use Rattle.causal_history.specs.Bits.{bit}
use Rattle.causal_history.specs.Rows.{history_of}
use Rattle.causal_cast.specs.Judging.{receivers as ids_of_parts}
use Rattle.causal_cast.proofs.Parts.{ArePlaced}
use Rattle.causal_cast.proofs.rules.receivers.Given as goal

-- the parts so far are for those of the crowd
abbrev pub invariant-loop-index : goal.invariant-loop-index
invariant-loop-index l =
    ArePlaced (ids_named (message_of l.packet.header ∷ history_of l.history)) (bit l.crowd.0)
    (take l.index (ids_of_parts l.packet.parts))
