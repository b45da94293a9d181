use Rattle.causal_history.proofs.RowFacts.{no-table}
use Rattle.causal_history.proofs.history.History.new.Goals as goal

pub invariant_of-result : goal.invariant_of-result
invariant_of-result c =
    rw c.new-table.ensures.rows (rw c.new-table.ensures.links (rw c.new-table.ensures.numbers (rw c.new-table.ensures.ids
    (rw c.new-table.ensures.senders (rw c.new-table.ensures.named (rw c.new-table.ensures.cards no-table))))))
