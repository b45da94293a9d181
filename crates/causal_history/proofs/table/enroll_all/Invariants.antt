use Rattle.std.proofs.Common.{◌≡◌, ◌+◌, ◌≤◌, drop, vec_len, vec_capacity}
use Rattle.indexmap.specs.IndexSet.{spare}
use Rattle.group_messages.specs.Messages.{ids_of}
use Rattle.causal_history.specs.Keeping.{enrolled, roster_of}
use Rattle.causal_history.proofs.table.enroll_all.Given as goal

abbrev pub invariant-loop-at : goal.invariant-loop-at
invariant-loop-at l = record {
  roster : enrolled l.row (roster_of l.named.keys l.cards.items) (drop l.at (ids_of l.ids)) l.at
      ≡ enrolled l.row (roster_of l.initial.named.keys l.initial.cards.items) (ids_of l.ids) 0;
  room : spare l.initial.named ≤ spare l.named + l.at;
  capacity : vec_capacity l.initial.cards ≤ vec_capacity l.cards;
  size : vec_len l.cards ≤ vec_len l.initial.cards + l.at;
}
