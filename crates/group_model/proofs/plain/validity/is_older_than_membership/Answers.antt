use Rattle.std.proofs.Common.{refl}
use Rattle.group_model.specs.Messages.{Message}
use Rattle.group_model.specs.Plain.{message_of, history_of, BringsInAfter}
use Rattle.group_model.proofs.Rows.{row-in, rows-end, none-more}
use Rattle.group_model.proofs.plain.validity.is_older_than_membership.Goals as goal

pub returns-then-brings : goal.returns-then-brings
returns-then-brings c = (
  λ _. record {
    by = message_of c.row-item.result;
    brings = c.in_ok-brings.ensures.0 c.if-brings.true;
    there_is = row-in c.args.rows.now c.loop-row.row-index c.row-item.result c.loop-row-test.true c.row-item.is;
  },
  λ _. refl,
)

pub loop-row-preserved : goal.loop-row-preserved
loop-row-preserved c = none-more
    (λ (a : Message). BringsInAfter (history_of c.args.rows.now) a c.args.member.now c.args.operation.now)
    c.args.rows.now c.loop-row.row-index c.row-item.result c.loop-row-test.true c.row-item.is c.loop-row.invariant
    (λ n. let t = c.in_ok-brings.ensures.1 n in let f = c.if-brings.false in cc)

pub returns : goal.returns
returns c = (
  λ h. cc,
  λ s. absurd (c.loop-row.invariant s.by
      (rows-end c.args.rows.now c.loop-row.row-index c.loop-row-test.false s.there_is) s.brings),
)
