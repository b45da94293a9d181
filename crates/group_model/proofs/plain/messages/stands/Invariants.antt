use Rattle.std.proofs.Common.{take}
use Rattle.group_model.specs.Messages.{Stands}
use Rattle.group_model.specs.Plain.{history_of}
use Rattle.group_model.proofs.plain.messages.stands.Given as goal

abbrev pub invariant-loop-row : goal.invariant-loop-row
invariant-loop-row l = Stands (history_of (take l.row-index l.rows)) l.id → ⊥
