use Rattle.std.proofs.Common.{arith}
use Rattle.causal_history.specs.Rows.{history_of, row_message}
use Rattle.causal_history.proofs.ListMore.{get-there}
use Rattle.group_model.specs.Membership.{ids_named}
use Rattle.add_ops.proofs.Forgotten.{row-forgotten}
use Rattle.add_ops.proofs.joining.forget_senders.Goals as goal

pub loop-index-preserved : goal.loop-index-preserved
loop-index-preserved g c =
    let rows = c.args.history.now in let i = c.loop-index.index in
    let row = get-there rows i (omega (arith, c.loop-index-test.true, c.count-index-end.ensures.count)) in
    row-forgotten g.K.Kem (ids_named (history_of rows)) rows i row.0 row.1 _ _ _ c.loop-index.invariant
    (c.forget_sender.ensures (row_message row.0) (c.rows_are_messages.ensures.number rows i row.0 row.1))
