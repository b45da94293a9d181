use Rattle.std.proofs.Common.{take}
use Rattle.group_model.specs.Plain.{HasAnswered}
use Rattle.group_model.specs.Plain.{history_of}
use Rattle.group_model.proofs.plain.validity.has_answered.Given as goal

abbrev pub invariant-loop-row : goal.invariant-loop-row
invariant-loop-row l = HasAnswered (history_of (take l.row-index l.rows)) l.sender l.operation → ⊥
