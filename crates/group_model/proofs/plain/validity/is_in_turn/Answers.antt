use Rattle.std.proofs.Common.{◌↔◌, IsTrue, IfOk, subst, sym}
use Rattle.group_model.specs.Validity.{IsInTurn}
use Rattle.group_model.specs.Plain.{kind_of, history_of}
use Rattle.group_model.proofs.plain.validity.is_in_turn.Goals as goal

pub returns-in-Ack : goal.returns-in-Ack
returns-in-Ack c = λ g. subst
    (λ k. IfOk c.answers_one.result (λ b. IsTrue b ↔ IsInTurn (history_of c.args.past.now) c.args.sender.now (kind_of k)))
    (sym c.in-Ack.is) (c.answers_one.ensures g)

pub returns-in-AddAck : goal.returns-in-AddAck
returns-in-AddAck c = λ g. subst
    (λ k. IfOk c.answers_one-in-AddAck.result (λ b. IsTrue b ↔ IsInTurn (history_of c.args.past.now) c.args.sender.now (kind_of k)))
    (sym c.in-AddAck.is) (c.answers_one-in-AddAck.ensures g)

pub returns-in-Create : goal.returns-in-Create
returns-in-Create c = λ g. subst
    (λ k. IfOk c.answers_none.result (λ b. IsTrue b ↔ IsInTurn (history_of c.args.past.now) c.args.sender.now (kind_of k)))
    (sym c.in-Create.is) (c.answers_none.ensures g)

pub returns-in-Update : goal.returns-in-Update
returns-in-Update c = λ g. subst
    (λ k. IfOk c.answers_none-in-Update.result (λ b. IsTrue b ↔ IsInTurn (history_of c.args.past.now) c.args.sender.now (kind_of k)))
    (sym c.in-Update.is) (c.answers_none-in-Update.ensures g)

pub returns-in-Remove : goal.returns-in-Remove
returns-in-Remove c = λ g. subst
    (λ k. IfOk c.answers_none-in-Remove.result (λ b. IsTrue b ↔ IsInTurn (history_of c.args.past.now) c.args.sender.now (kind_of k)))
    (sym c.in-Remove.is) (c.answers_none-in-Remove.ensures g)

pub returns-in-Add : goal.returns-in-Add
returns-in-Add c = λ g. subst
    (λ k. IfOk c.answers_none-in-Add.result (λ b. IsTrue b ↔ IsInTurn (history_of c.args.past.now) c.args.sender.now (kind_of k)))
    (sym c.in-Add.is) (c.answers_none-in-Add.ensures g)

pub returns-in-Text : goal.returns-in-Text
returns-in-Text c = λ g. subst
    (λ k. IfOk c.answers_none-in-Text.result (λ b. IsTrue b ↔ IsInTurn (history_of c.args.past.now) c.args.sender.now (kind_of k)))
    (sym c.in-Text.is) (c.answers_none-in-Text.ensures g)
