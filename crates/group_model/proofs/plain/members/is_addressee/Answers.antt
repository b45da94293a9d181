use Rattle.std.proofs.Common.{◌↔◌, IsTrue, IfOk, subst, sym}
use Rattle.group_model.specs.Membership.{remove_wins, IsAddressee}
use Rattle.group_model.specs.Plain.{kind_of, message_of, history_of}
use Rattle.group_model.proofs.plain.members.is_addressee.Goals as goal

pub returns-in-Create : goal.returns-in-Create
returns-in-Create c = subst
    (λ k. IfOk c.is_recipient.result (λ b. IsTrue b ↔ IsAddressee remove_wins (history_of c.args.rows.now) (message_of c.args.row.now) (kind_of k) c.args.id.now))
    (sym c.in-Create.is) c.is_recipient.ensures

pub returns-in-Update : goal.returns-in-Update
returns-in-Update c = subst
    (λ k. IfOk c.is_recipient-in-Update.result (λ b. IsTrue b ↔ IsAddressee remove_wins (history_of c.args.rows.now) (message_of c.args.row.now) (kind_of k) c.args.id.now))
    (sym c.in-Update.is) c.is_recipient-in-Update.ensures

pub returns-in-Remove : goal.returns-in-Remove
returns-in-Remove c = subst
    (λ k. IfOk c.is_recipient-in-Remove.result (λ b. IsTrue b ↔ IsAddressee remove_wins (history_of c.args.rows.now) (message_of c.args.row.now) (kind_of k) c.args.id.now))
    (sym c.in-Remove.is) c.is_recipient-in-Remove.ensures

pub returns-in-Ack : goal.returns-in-Ack
returns-in-Ack c = subst
    (λ k. IfOk c.is_taken_to.result (λ b. IsTrue b ↔ IsAddressee remove_wins (history_of c.args.rows.now) (message_of c.args.row.now) (kind_of k) c.args.id.now))
    (sym c.in-Ack.is) c.is_taken_to.ensures

pub returns-in-AddAck : goal.returns-in-AddAck
returns-in-AddAck c = subst
    (λ k. IfOk c.is_handed_to.result (λ b. IsTrue b ↔ IsAddressee remove_wins (history_of c.args.rows.now) (message_of c.args.row.now) (kind_of k) c.args.id.now))
    (sym c.in-AddAck.is) c.is_handed_to.ensures
