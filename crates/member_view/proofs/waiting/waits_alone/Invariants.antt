use Rattle.std.proofs.Common.{ℕ, ◌<◌, ◌≡◌, Some}
use Rattle.causal_history.specs.Bits.{mark}
use Rattle.causal_history.specs.Rows.{history_of}
use Rattle.group_model.specs.Messages.{Message}
use Rattle.group_model.specs.Marks.{HasNumber, marked}
use Rattle.group_model.specs.Validity.{IsUnanswered}
use Rattle.member_view.proofs.waiting.waits_alone.Given as goal

abbrev pub invariant-loop-index : goal.invariant-loop-index
invariant-loop-index l = (i : ℕ) (o : Message) → i < l.index → HasNumber (history_of l.history) i o
    → IsUnanswered (marked (mark l.of) (history_of l.history)) l.author.id.0.0 o → l.number ≡ Some i
