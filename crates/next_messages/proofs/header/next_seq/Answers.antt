use Rattle.std.proofs.Common.{arith}
use Rattle.causal_history.specs.Rows.{history_of}
use Rattle.causal_history.proofs.RowFacts.{history-length}
use Rattle.next_messages.proofs.HeaderFacts.{count-few}
use Rattle.next_messages.proofs.header.next_seq.Goals as goal

pub overflow_add-result : goal.overflow_add-result
overflow_add-result c =
    let few = count-few c.args.me.now.0.0 (history_of c.args.history.now) in
    let size = history-length c.args.history.now in
    let is = c.count_of_sender.ensures in
    omega (arith, few, size, is, c.requires)
