use Rattle.std.proofs.Common.{IsTrue, ◌↔◌}
use Rattle.causal_history.specs.Rows.{history_of}
use Rattle.group_messages.specs.Messages.{message_of, kind_of}
use Rattle.group_model.specs.Messages.{Message}
use Rattle.group_model.specs.Validity.{StepsRatchet}
use Rattle.member_view.proofs.Oldest.{at-number}
use Rattle.member_view.proofs.Senders.{ack-steps}
use Rattle.member_checks.proofs.stepped.steps.Goals as goal

pub returns-in-Ack-act_of : goal.returns-in-Ack-act_of
returns-in-Ack-act_of c = λ m r.
    at-number (history_of c.args.history.now) c.args.index (message_of c.row.result) m c.row.ensures.message r
    (λ (z : Message). IsTrue c.in-Ack-act_of.took ↔ StepsRatchet z.kind)
    (ack-steps c.in-Ack-act_of.field-0.0.0 c.in-Ack-act_of.took (kind_of c.row.result) c.in-Ack-act_of.ensures)
