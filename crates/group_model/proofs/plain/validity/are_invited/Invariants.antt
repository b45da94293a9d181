use Rattle.std.proofs.Common.{take}
use Rattle.group_model.specs.Sets.{Id, In}
use Rattle.group_model.specs.Validity.{IsInvited}
use Rattle.group_model.specs.Plain.{inviter_in}
use Rattle.group_model.proofs.plain.validity.are_invited.Given as goal

abbrev pub invariant-loop-id : goal.invariant-loop-id
invariant-loop-id l = (y : Id) → In y (take l.id-index l.ids) → IsInvited (inviter_in l.cards) l.sender y
