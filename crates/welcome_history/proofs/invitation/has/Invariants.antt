use Rattle.std.proofs.Common.{take}
use Rattle.group_messages.specs.Messages.{ids_of}
use Rattle.group_model.specs.Sets.{In}
use Rattle.welcome_history.proofs.invitation.has.Given as goal

-- none before this one is the id
abbrev pub invariant-loop-index : goal.invariant-loop-index
invariant-loop-index l = In l.id.0.0 (take l.index (ids_of l.ids)) → ⊥
