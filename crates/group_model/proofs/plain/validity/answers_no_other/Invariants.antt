use Rattle.std.proofs.Common.{take}
use Rattle.std.proofs.Common.{◌≢◌}
use Rattle.group_model.specs.Sets.{In}
use Rattle.group_model.specs.Messages.{Message, IsHistory}
use Rattle.group_model.specs.Validity.{IsUnanswered}
use Rattle.group_model.specs.Plain.{history_of}
use Rattle.group_model.proofs.plain.validity.answers_no_other.Given as goal

abbrev pub invariant-loop-row : goal.invariant-loop-row
invariant-loop-row l = IsHistory (history_of l.rows) → (a : Message) → In a (history_of (take l.row-index l.rows)) → IsUnanswered (history_of l.rows) l.member a × (a.id ≢ l.id) → ⊥
