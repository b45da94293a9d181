use Rattle.causal_history.specs.Bits.{mark}
use Rattle.causal_history.specs.Rows.{history_of}
use Rattle.group_model.specs.Plain.{HasAnswered}
use Rattle.member_view.specs.Waiting.{MarksThose}
use Rattle.member_view.proofs.Oldest.{so_far}
use Rattle.member_view.proofs.waiting.mark_answered.Given as goal

abbrev pub invariant-loop-index : goal.invariant-loop-index
invariant-loop-index l = MarksThose (history_of l.history) (mark l.initial.into) (mark l.into)
    (λ o. HasAnswered (so_far (mark l.of) (history_of l.history) l.index) l.author.id.0.0 o.id)
