use Rattle.std.proofs.Common.{refl}
use Rattle.group_model.proofs.Rows.{removed-at, removed-none}
use Rattle.group_model.proofs.plain.members.is_removed.Goals as goal

pub returns-then-removes : goal.returns-then-removes
returns-then-removes c = (
  λ _. removed-at c.args.rows.now c.loop-row.row-index c.row-item.result c.args.id.now c.loop-row-test.true c.row-item.is
      (c.removes.ensures.0 c.if-removes.true),
  λ _. refl,
)

pub loop-row-preserved : goal.loop-row-preserved
loop-row-preserved c = removed-none c.args.rows.now c.loop-row.row-index c.row-item.result c.args.id.now c.loop-row-test.true
    c.row-item.is c.loop-row.invariant (λ n. let t = c.removes.ensures.1 n in let f = c.if-removes.false in cc)
