use Rattle.std.proofs.Common.{◌∙◌, List, ap, arith, length, subst}
use Rattle.group_model.specs.Sets.{In}
use Rattle.group_model.specs.Marks.{IsPlace}
use Rattle.causal_history.specs.Rows.{Row, history_of, senders_of}
use Rattle.causal_history.proofs.ListMore.{get-below}
use Rattle.causal_history.proofs.RowFacts.{length-senders, history-length}
use Rattle.causal_history.proofs.history.History.number_of_sender.Goals as goal

pub overflow_cast-result : goal.overflow_cast-result
overflow_cast-result c = omega (
  arith,
  get-below c.self.inside.table.senders.keys c.in-Some.at c.args.id.now.0.0 c.in-Some.ensures,
  ap length c.self.invariant.senders_are,
  length-senders (history_of c.self.inside.table.rows.items),
  history-length c.self.inside.table.rows.items,
  c.self.invariant.kept.few,
)

pub returns-in-Some : goal.returns-in-Some
returns-in-Some c = subst (λ z. IsPlace z c.in-Some.at c.args.id.now.0.0)
    (c.self.invariant.senders_are ∙ ap (λ (z : List Row). senders_of (history_of z)) c.self.view_is) c.in-Some.ensures

pub returns-in-None : goal.returns-in-None
returns-in-None c = subst (λ z. In c.args.id.now.0.0 z → ⊥)
    (c.self.invariant.senders_are ∙ ap (λ (z : List Row). senders_of (history_of z)) c.self.view_is) c.in-None.ensures
