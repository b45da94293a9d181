use Rattle.causal_history.specs.Rows.{history_of}
use Rattle.group_model.proofs.Verdicts.{says-equal}
use Rattle.member_view.proofs.Senders.{same-sender}
use Rattle.member_checks.proofs.stepped.is_step_of.Goals as goal

-- two senders have two numbers
pub returns-else-number-sender_number : goal.returns-else-number-sender_number
returns-else-number-sender_number c = λ x m at r. (
  λ t. absurd (c.if-number-sender_number.false ((says-equal c.args.number c.sender_number.result).holds t)),
  λ k. (same-sender (history_of c.args.history.now) c.args.number c.sender_number.result x m.sender at
      (c.sender_number.ensures m r)).1 k.0,
)
