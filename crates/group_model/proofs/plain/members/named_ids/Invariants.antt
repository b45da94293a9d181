use Rattle.std.proofs.Common.{◌≡◌, ◌≤◌, length, drop}
use Rattle.group_model.specs.Membership.{ids_named}
use Rattle.group_model.specs.Plain.{history_of}
use Rattle.group_model.proofs.plain.members.named_ids.Given as goal

abbrev pub invariant-loop-at : goal.invariant-loop-at
invariant-loop-at l = record {
  in_range : l.at ≤ length l.rows;
  same : l.ids.items ≡ ids_named (history_of (drop l.at l.rows));
}

abbrev pub decreases-loop-at : goal.decreases-loop-at
decreases-loop-at l = l.at
