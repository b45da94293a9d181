use Rattle.std.proofs.Common.{take}
use Rattle.group_model.specs.Sets.{Id, In, IsAscending}
use Rattle.group_model.specs.Membership.{remove_wins, IsAddressee}
use Rattle.group_model.specs.Plain.{kind_of, message_of, history_of}
use Rattle.group_model.proofs.plain.members.addressees.Given as goal

abbrev pub invariant-loop-id : goal.invariant-loop-id
invariant-loop-id l = record {
  ascending : IsAscending l.ids.items;
  all : (y : Id) → In y (take l.id-index l.candidates) → IsAddressee remove_wins (history_of l.rows) (message_of l.row) (kind_of l.row.kind) y → In y l.ids.items;
  only : (y : Id) → In y l.ids.items → IsAddressee remove_wins (history_of l.rows) (message_of l.row) (kind_of l.row.kind) y;
}
