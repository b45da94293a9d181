use Rattle.std.proofs.Common.{◌≡◌, drop}
use Rattle.group_model.specs.Membership.{joined}
use Rattle.group_model.proofs.plain.members.joined_once.Given as goal

abbrev pub invariant-loop-id : goal.invariant-loop-id
invariant-loop-id l = joined l.wider.items (drop l.id-index l.more) ≡ joined l.initial.wider.items l.more
