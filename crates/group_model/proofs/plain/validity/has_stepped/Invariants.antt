use Rattle.std.proofs.Common.{take}
use Rattle.group_model.specs.Validity.{HasStepped}
use Rattle.group_model.specs.Plain.{history_of}
use Rattle.group_model.proofs.plain.validity.has_stepped.Given as goal

abbrev pub invariant-loop-row : goal.invariant-loop-row
invariant-loop-row l = HasStepped (history_of (take l.row-index l.rows)) l.sender → ⊥
