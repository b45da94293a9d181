use Rattle.std.proofs.Common.{take}
use Rattle.std.proofs.Common.{◌≡◌}
use Rattle.group_model.specs.Sets.{In}
use Rattle.group_model.specs.Messages.{Message}
use Rattle.group_model.specs.Plain.{message_of, Forwards}
use Rattle.group_model.specs.Plain.{history_of}
use Rattle.group_model.proofs.plain.members.is_forwarded_to.Given as goal

abbrev pub invariant-loop-row : goal.invariant-loop-row
invariant-loop-row l = (a : Message) → In a (history_of (take l.row-index l.rows)) → (a.id ≡ l.of) × Forwards (history_of l.rows) a (message_of l.answer) l.id → ⊥
