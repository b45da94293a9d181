use Rattle.std.proofs.Common.{take}
use Rattle.group_model.specs.Messages.{Message}
use Rattle.group_model.specs.Marks.{HasNumber}
use Rattle.causal_history.specs.Bits.{mark}
use Rattle.causal_history.specs.Numbered.{MarksMore}
use Rattle.causal_history.specs.Rows.{history_of}
use Rattle.causal_history.proofs.history.History.mark_predecessors.Given as goal

abbrev pub invariant-loop-number : goal.invariant-loop-number
invariant-loop-number l = (m : Message) → HasNumber (history_of l.self) l.index m
    → MarksMore (history_of l.self) (take l.number-index m.predecessors) (mark l.initial.into) (mark l.into)
