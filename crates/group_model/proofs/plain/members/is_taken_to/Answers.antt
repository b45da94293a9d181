use Rattle.std.proofs.Common.{◌↔◌, false, IsTrue, IfOk, subst, sym}
use Rattle.group_model.specs.Messages.{Ack}
use Rattle.group_model.specs.Membership.{remove_wins, IsAddressee}
use Rattle.group_model.specs.Plain.{message_of, history_of}
use Rattle.group_model.proofs.plain.members.is_taken_to.Goals as goal

pub returns-then-took : goal.returns-then-took
returns-then-took c = subst
    (λ t. IfOk c.is_forwarded_to.result (λ b. IsTrue b ↔ IsAddressee remove_wins (history_of c.args.rows.now) (message_of c.args.ack.now) (Ack c.args.of.now t) c.args.id.now))
    (sym c.if-took.true) c.is_forwarded_to.ensures

pub returns : goal.returns
returns c = subst
    (λ t. IsTrue false ↔ IsAddressee remove_wins (history_of c.args.rows.now) (message_of c.args.ack.now) (Ack c.args.of.now t) c.args.id.now)
    (sym c.if-took.false) (λ h. cc, λ n. absurd n)
