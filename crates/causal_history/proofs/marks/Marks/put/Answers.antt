use Rattle.std.proofs.Common.{arith, ap, ◌∙◌}
use Rattle.causal_history.specs.Bits.{mark}
use Rattle.causal_history.proofs.BitFacts.{mark-put_same, mark-put_other}
use Rattle.causal_history.proofs.marks.Marks.put.Goals as goal

pub returns-clause-set : goal.returns-clause-set
returns-clause-set c = mark-put_same c.self.inside.words c.args.index (omega arith)

pub returns-clause-others : goal.returns-clause-others
returns-clause-others c = λ j n.
    mark-put_other c.self.inside.words c.args.index j (omega arith) n ∙ ap (λ z. mark z j) c.self.view_is
