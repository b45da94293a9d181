use Rattle.std.proofs.Common.{◌≡◌, take}
use Rattle.group_fields.proofs.ids_view.IdsView.to_ids.Given as goal

abbrev pub invariant-loop-index : goal.invariant-loop-index
invariant-loop-index l = l.ids ≡ take l.index l.self
