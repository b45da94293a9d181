use Rattle.std.proofs.Common.{◌≡◌, ◌+◌, drop}
use Rattle.group_model.specs.Plain.{place}
use Rattle.group_model.proofs.plain.messages.place_of.Given as goal

abbrev pub invariant-loop-at : goal.invariant-loop-at
invariant-loop-at l = l.at + place (drop l.at l.ids) l.id ≡ place l.ids l.id
