use Rattle.std.proofs.Common.{◌≡◌}
use Rattle.group_model.specs.Messages.{Message}
use Rattle.group_model.specs.Validity.{IsUnanswered}
use Rattle.group_model.specs.Plain.{message_of, history_of}
use Rattle.group_model.proofs.Rows.{row-in, rows-end, none-more, answers_one-where}
use Rattle.group_model.proofs.plain.validity.answers_one.Goals as goal

pub returns-then-found : goal.returns-then-found
returns-then-found c = λ g.
    let i = row-in c.args.rows.now c.loop-row.row-index c.row-item.result c.loop-row-test.true c.row-item.is in
    let k = (c.in_ok-found.ensures g i).0 c.if-found.true in
    answers_one-where (history_of c.args.rows.now) c.args.member.now c.args.id.now (message_of c.row-item.result) k.0 k.1
    c.answers_no_other.result (c.answers_no_other.ensures g)

pub loop-row-preserved : goal.loop-row-preserved
loop-row-preserved c = λ g.
    let i = row-in c.args.rows.now c.loop-row.row-index c.row-item.result c.loop-row-test.true c.row-item.is in
    none-more (λ (a : Message). IsUnanswered (history_of c.args.rows.now) c.args.member.now a × (a.id ≡ c.args.id.now))
    c.args.rows.now c.loop-row.row-index c.row-item.result c.loop-row-test.true c.row-item.is (c.loop-row.invariant g)
    (λ n. let t = (c.in_ok-found.ensures g i).1 n in let f = c.if-found.false in cc)

pub returns : goal.returns
returns c = λ g. (
  λ h. cc,
  λ one. absurd (c.loop-row.invariant g one.operation
      (rows-end c.args.rows.now c.loop-row.row-index c.loop-row-test.false one.waits.there_is) (one.waits, one.has_id)),
)
