use Rattle.std.proofs.Common.{◌≡◌, ◌≢◌, take}
use Rattle.group_model.specs.Sets.{Id, In}
use Rattle.group_model.specs.Messages.{Add, Message}
use Rattle.group_model.specs.Plain.{history_of}
use Rattle.group_model.proofs.plain.validity.may_add_ack.Given as goal

abbrev pub invariant-loop-row : goal.invariant-loop-row
invariant-loop-row l = (o : Message) → In o (history_of (take l.row-index l.past)) → o.id ≡ l.operation
    → (y : Id) × (o.kind ≡ Add y) × (y ≢ l.sender)
