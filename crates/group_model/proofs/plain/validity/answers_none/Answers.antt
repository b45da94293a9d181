use Rattle.std.proofs.Common.{refl}
use Rattle.group_model.specs.Messages.{Message}
use Rattle.group_model.specs.Validity.{IsUnanswered}
use Rattle.group_model.specs.Plain.{message_of, history_of}
use Rattle.group_model.proofs.Rows.{row-in, rows-end, none-more}
use Rattle.group_model.proofs.plain.validity.answers_none.Goals as goal

pub returns-then-waits : goal.returns-then-waits
returns-then-waits c = λ g.
    let i = row-in c.args.rows.now c.loop-row.row-index c.row-item.result c.loop-row-test.true c.row-item.is in
    (λ h. cc, λ n. absurd (n (message_of c.row-item.result) ((c.in_ok-waits.ensures g i).0 c.if-waits.true)))

pub loop-row-preserved : goal.loop-row-preserved
loop-row-preserved c = λ g.
    let i = row-in c.args.rows.now c.loop-row.row-index c.row-item.result c.loop-row-test.true c.row-item.is in
    none-more (λ (a : Message). IsUnanswered (history_of c.args.rows.now) c.args.member.now a)
    c.args.rows.now c.loop-row.row-index c.row-item.result c.loop-row-test.true c.row-item.is (c.loop-row.invariant g)
    (λ n. let t = (c.in_ok-waits.ensures g i).1 n in let f = c.if-waits.false in cc)

pub returns : goal.returns
returns c = λ g. (λ h o u. c.loop-row.invariant g o (rows-end c.args.rows.now c.loop-row.row-index c.loop-row-test.false u.there_is) u, λ n. refl)
