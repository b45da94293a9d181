use Rattle.std.proofs.Common.{◌≡◌, take}
use Rattle.group_model.specs.Sets.{In}
use Rattle.group_model.specs.Messages.{Message}
use Rattle.group_model.specs.Plain.{history_of, SuitsAck}
use Rattle.group_model.proofs.plain.validity.may_ack.Given as goal

abbrev pub invariant-loop-row : goal.invariant-loop-row
invariant-loop-row l = (o : Message) → In o (history_of (take l.row-index l.past)) → o.id ≡ l.operation
    → SuitsAck (history_of l.past) l.sender l.took o
