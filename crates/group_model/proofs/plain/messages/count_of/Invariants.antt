use Rattle.std.proofs.Common.{◌≡◌, ◌+◌, ◌≤◌, drop}
use Rattle.group_model.specs.Validity.{count_of}
use Rattle.group_model.specs.Plain.{history_of}
use Rattle.group_model.proofs.plain.messages.count_of.Given as goal

abbrev pub invariant-loop-row : goal.invariant-loop-row
invariant-loop-row l = (l.count ≤ l.row-index)
    × (l.count + count_of l.sender (history_of (drop l.row-index l.rows)) ≡ count_of l.sender (history_of l.rows))
