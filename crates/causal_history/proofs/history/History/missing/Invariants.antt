use Rattle.std.proofs.Common.{take}
use Rattle.group_model.specs.Sets.{Id, In}
use Rattle.group_model.specs.Messages.{Stands}
use Rattle.group_messages.specs.Messages.{ids_of}
use Rattle.causal_history.specs.Rows.{history_of}
use Rattle.causal_history.proofs.history.History.missing.Given as goal

abbrev pub invariant-loop-at : goal.invariant-loop-at
invariant-loop-at l = (i : Id) → In i (take l.at (ids_of l.ids)) → Stands (history_of l.self) i
