use Rattle.std.proofs.Common.{◌≡◌, refl}
use Rattle.group_model.specs.Messages.{Message}
use Rattle.group_model.specs.Plain.{message_of, history_of, SuitsAck}
use Rattle.group_model.proofs.Rows.{row-in, rows-end, all-more}
use Rattle.group_model.proofs.plain.validity.may_ack.Goals as goal

pub returns-then-not-allows : goal.returns-then-not-allows
returns-then-not-allows c = (
  λ h. cc,
  λ f. absurd (let t = c.in_ok-allows.ensures.1 (f (message_of c.row-item.result)
      (row-in c.args.past.now c.loop-row.row-index c.row-item.result c.loop-row-test.true c.row-item.is)) in let g = c.if-not-allows.true in cc),
)

pub loop-row-preserved : goal.loop-row-preserved
loop-row-preserved c = all-more (λ (o : Message). o.id ≡ c.args.operation.now → SuitsAck (history_of c.args.past.now) c.args.sender.now c.args.took o)
    c.args.past.now c.loop-row.row-index c.row-item.result c.loop-row-test.true c.row-item.is c.loop-row.invariant
    (c.in_ok-allows.ensures.0 c.if-not-allows.false)

pub returns : goal.returns
returns c = (
  λ h o k. c.loop-row.invariant o (rows-end c.args.past.now c.loop-row.row-index c.loop-row-test.false k),
  λ f. refl,
)
