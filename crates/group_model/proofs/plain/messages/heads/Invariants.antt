use Rattle.std.proofs.Common.{◌≡◌, take}
use Rattle.group_model.specs.Sets.{Id, In, IsAscending}
use Rattle.group_model.specs.Messages.{Message, IsHead}
use Rattle.group_model.specs.Plain.{history_of}
use Rattle.group_model.proofs.plain.messages.heads.Given as goal

abbrev pub invariant-loop-row : goal.invariant-loop-row
invariant-loop-row l = record {
  ascending : IsAscending l.ids.items;
  all : (a : Message) → In a (history_of (take l.row-index l.rows)) → IsHead (history_of l.rows) a → In a.id l.ids.items;
  only : (i : Id) → In i l.ids.items → (a : Message) × IsHead (history_of l.rows) a × (a.id ≡ i);
}
