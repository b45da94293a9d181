use Rattle.std.proofs.Common.{[]}
use Rattle.group_model.proofs.Rows.{joined-has, joined-new}
use Rattle.group_model.proofs.plain.members.joined_once.Goals as goal
use Rattle.group_model.proofs.plain.members.joined_once.Goals.{then-not-has+in_ok-push, else-not-has}

pub loop-id-preserved : goal.loop-id-preserved
loop-id-preserved c = elim c.if-not-has.branch [
  | then-not-has+in_ok-push w ↦
      rw w.wider-is (rw w.in_ok-push.ensures.items
      (joined-new c.args.more.now c.loop-id.id-index [] c.loop-id.wider.items _ c.loop-id-test.true c.loop-id.invariant
      (λ i. let t = c.has.ensures.1 (rw (← c.as_slice.ensures.value) at i) in let f = w.if-not-has.true in cc)))
  | else-not-has w ↦
      rw w.wider-is (joined-has c.args.more.now c.loop-id.id-index [] c.loop-id.wider.items _ c.loop-id-test.true c.loop-id.invariant
      (rw c.as_slice.ensures.value at (c.has.ensures.0 w.if-not-has.false)))
]
