use Rattle.std.proofs.Common.{refl}
use Rattle.group_model.specs.Sets.{In}
use Rattle.group_model.specs.Messages.{Message}
use Rattle.group_model.specs.Plain.{message_of, history_of}
use Rattle.group_model.proofs.Ascending.{head-last, not_head}
use Rattle.group_model.proofs.Rows.{row-in, rows-end, none-more}
use Rattle.group_model.proofs.plain.messages.is_head.Goals as goal

pub returns-then-has : goal.returns-then-has
returns-then-has c = λ i. (
  λ h. cc,
  λ k. absurd (not_head (history_of c.args.rows.now) (message_of c.args.row.now) (message_of c.other-item.result)
      (row-in c.args.rows.now c.loop-other.other-index c.other-item.result c.loop-other-test.true c.other-item.is)
      (rw c.as_slice.ensures.value at (c.has.ensures.0 c.if-has.true)) k),
)

pub loop-other-preserved : goal.loop-other-preserved
loop-other-preserved c = none-more (λ (b : Message). In c.args.row.now.id b.predecessors)
    c.args.rows.now c.loop-other.other-index c.other-item.result c.loop-other-test.true c.other-item.is c.loop-other.invariant
    (λ i. let t = c.has.ensures.1 (rw (← c.as_slice.ensures.value) at i) in let f = c.if-has.false in cc)

pub returns : goal.returns
returns c = λ i. (
  λ h. head-last (history_of c.args.rows.now) (message_of c.args.row.now) i
      (λ b j k. c.loop-other.invariant b (rows-end c.args.rows.now c.loop-other.other-index c.loop-other-test.false j) k),
  λ k. refl,
)
