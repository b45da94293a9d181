use Rattle.std.proofs.Common.{take}
use Rattle.group_model.specs.Plain.{history_of, IsAddedBy}
use Rattle.group_model.proofs.plain.members.is_added_by.Given as goal

abbrev pub invariant-loop-row : goal.invariant-loop-row
invariant-loop-row l = IsAddedBy (history_of (take l.row-index l.rows)) l.of l.id → ⊥
