use Rattle.std.proofs.Common.{◌≡◌, ◌++◌, drop}
use Rattle.group_model.specs.Messages.{past}
use Rattle.group_model.specs.Plain.{history_of}
use Rattle.group_model.proofs.plain.messages.past.Given as goal

abbrev pub invariant-loop-row : goal.invariant-loop-row
invariant-loop-row l = history_of l.found.items ++ past (history_of (drop l.row-index l.rows)) l.wanted.items
    ≡ past (history_of l.rows) l.fn.ids
