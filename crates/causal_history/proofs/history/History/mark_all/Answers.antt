use Rattle.std.proofs.Common.{arith}
use Rattle.causal_history.specs.Bits.{mark}
use Rattle.causal_history.specs.Rows.{history_of}
use Rattle.causal_history.proofs.Numbers.{marked-all}
use Rattle.causal_history.proofs.RowFacts.{history-length}
use Rattle.causal_history.proofs.history.History.mark_all.Goals as goal

pub returns-clause-marked : goal.returns-clause-marked
returns-clause-marked c = marked-all (history_of c.args.self.now) (mark c.set_first.new.self)
    (λ i l. (c.set_first.ensures i).1 (omega (arith, l, history-length c.args.self.now, c.count.ensures.count)))
