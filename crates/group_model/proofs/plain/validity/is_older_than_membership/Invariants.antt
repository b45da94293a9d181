use Rattle.std.proofs.Common.{take}
use Rattle.group_model.specs.Sets.{In}
use Rattle.group_model.specs.Messages.{Message}
use Rattle.group_model.specs.Plain.{BringsInAfter}
use Rattle.group_model.specs.Plain.{history_of}
use Rattle.group_model.proofs.plain.validity.is_older_than_membership.Given as goal

abbrev pub invariant-loop-row : goal.invariant-loop-row
invariant-loop-row l = (a : Message) → In a (history_of (take l.row-index l.rows)) → BringsInAfter (history_of l.rows) a l.member l.operation → ⊥
