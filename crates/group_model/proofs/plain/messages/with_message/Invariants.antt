use Rattle.std.proofs.Common.{◌≡◌, ◌∷◌, take}
use Rattle.group_model.specs.Plain.{message_of, history_of}
use Rattle.group_model.proofs.plain.messages.with_message.Given as goal

abbrev pub invariant-loop-other : goal.invariant-loop-other
invariant-loop-other l = history_of l.all.items ≡ message_of l.row ∷ history_of (take l.other-index l.rows)
