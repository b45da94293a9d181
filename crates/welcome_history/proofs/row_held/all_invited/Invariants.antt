use Rattle.std.proofs.Common.{take}
use Rattle.group_messages.specs.Messages.{ids_of}
use Rattle.group_model.specs.Sets.{Id, In}
use Rattle.group_model.specs.Validity.{IsInvited}
use Rattle.causal_cast.specs.Judging.{inviter_by}
use Rattle.welcome_history.proofs.row_held.all_invited.Given as goal

-- the sender may create a group with each of those before this one
abbrev pub invariant-loop-index : goal.invariant-loop-index
invariant-loop-index g l = (y : Id) → In y (take l.index (ids_of l.members))
    → IsInvited (inviter_by g.K.Kem.is_public l.welcome.cards) l.sender.0.0 y
