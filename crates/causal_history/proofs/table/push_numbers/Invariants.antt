use Rattle.std.proofs.Common.{◌≡◌, ℕ, ◌+◌, ◌≤◌, List, ◌++◌, take, vec_len, vec_capacity}
use Rattle.group_messages.specs.Messages.{ids_of}
use Rattle.causal_history.specs.Keeping.{AreNumbers}
use Rattle.causal_history.proofs.table.push_numbers.Given as goal

abbrev pub invariant-loop-at : goal.invariant-loop-at
invariant-loop-at l = record {
  numbers : (more : List ℕ) × (l.numbers.items ≡ l.initial.numbers.items ++ more) × AreNumbers l.index.keys more (take l.at (ids_of l.ids));
  capacity : vec_capacity l.initial.numbers ≤ vec_capacity l.numbers;
  size : vec_len l.numbers ≡ vec_len l.initial.numbers + l.at;
}
