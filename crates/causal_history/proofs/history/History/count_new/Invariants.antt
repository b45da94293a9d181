use Rattle.std.proofs.Common.{◌≡◌, ◌+◌, ◌≤◌, length, take}
use Rattle.group_model.specs.Membership.{ids_named, joined}
use Rattle.group_messages.specs.Messages.{ids_of}
use Rattle.causal_history.specs.Rows.{history_of}
use Rattle.causal_history.proofs.history.History.count_new.Given as goal

abbrev pub invariant-loop-at : goal.invariant-loop-at
invariant-loop-at l = record {
  count : length (joined (ids_named (history_of l.self)) (take l.at (ids_of l.ids))) ≡ length (ids_named (history_of l.self)) + l.count;
  few : l.count ≤ l.at;
}
