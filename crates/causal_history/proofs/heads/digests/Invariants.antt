use Rattle.std.proofs.Common.{◌≡◌, take}
use Rattle.group_messages.specs.Messages.{ids_of}
use Rattle.causal_history.proofs.heads.digests.Given as goal

abbrev pub invariant-loop-id : goal.invariant-loop-id
invariant-loop-id l = ids_of l.list ≡ take l.id-index l.ids
