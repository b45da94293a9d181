use Rattle.std.proofs.Common.{take}
use Rattle.group_model.specs.Sets.{In}
use Rattle.group_model.specs.Messages.{Message}
use Rattle.group_model.specs.Plain.{history_of}
use Rattle.group_model.proofs.plain.messages.is_head.Given as goal

abbrev pub invariant-loop-other : goal.invariant-loop-other
invariant-loop-other l = (b : Message) → In b (history_of (take l.other-index l.rows)) → In l.row.id b.predecessors → ⊥
