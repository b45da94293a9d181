use Rattle.std.proofs.Common.{take}
use Rattle.group_model.specs.Membership.{Removed}
use Rattle.group_model.specs.Plain.{history_of}
use Rattle.group_model.proofs.plain.members.is_removed.Given as goal

abbrev pub invariant-loop-row : goal.invariant-loop-row
invariant-loop-row l = Removed (history_of (take l.row-index l.rows)) l.id → ⊥
