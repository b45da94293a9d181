use Rattle.std.proofs.Common.{take}
use Rattle.group_messages.specs.Messages.{ids_of}
use Rattle.group_model.specs.Sets.{In}
use Rattle.member_view.proofs.faults.has_id.Given as goal

abbrev pub invariant-loop-index : goal.invariant-loop-index
invariant-loop-index l = In l.id.0.0 (take l.index (ids_of l.ids)) → ⊥
