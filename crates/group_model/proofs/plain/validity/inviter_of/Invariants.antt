use Rattle.std.proofs.Common.{◌≡◌, drop}
use Rattle.group_model.specs.Plain.{inviter_in}
use Rattle.group_model.proofs.plain.validity.inviter_of.Given as goal

abbrev pub invariant-loop-card : goal.invariant-loop-card
invariant-loop-card l = inviter_in (drop l.card-index l.cards) l.id ≡ inviter_in l.cards l.id
