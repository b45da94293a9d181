use Rattle.std.proofs.Common.{◌∷◌}
use Rattle.group_model.specs.Membership.{ids_named}
use Rattle.group_messages.specs.Messages.{message_of}
use Rattle.causal_history.specs.Rows.{history_of}
use Rattle.next_messages.specs.Due.{message_with}
use Rattle.next_messages.proofs.Addressed.{addressed-placed}
use Rattle.next_messages.proofs.laws.due_receivers_are_addressees.Goals as goal

pub returns : goal.returns
returns c = λ rule is_rule rows header bits to due receivers digest new.
    let h = history_of rows in
    let m = message_with header digest in
    c.receivers_are_addressees.ensures rule (m ∷ h) m (ids_named (message_of header ∷ h)) bits to receivers (due.crowd digest new)
    (addressed-placed rule is_rule h m)
