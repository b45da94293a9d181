use Rattle.std.proofs.Common.{refl}
use Rattle.group_model.proofs.Rows.{named-at, named-none}
use Rattle.group_model.proofs.plain.members.is_named.Goals as goal

pub returns-then-names : goal.returns-then-names
returns-then-names c = (
  λ _. named-at c.args.rows.now c.loop-row.row-index c.row-item.result c.args.id.now c.loop-row-test.true c.row-item.is
      (c.names.ensures.0 c.if-names.true),
  λ _. refl,
)

pub loop-row-preserved : goal.loop-row-preserved
loop-row-preserved c = named-none c.args.rows.now c.loop-row.row-index c.row-item.result c.args.id.now c.loop-row-test.true
    c.row-item.is c.loop-row.invariant (λ n. let t = c.names.ensures.1 n in let f = c.if-names.false in cc)
