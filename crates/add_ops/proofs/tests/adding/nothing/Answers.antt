use Rattle.std.proofs.Common.{List, subst}
use Rattle.group_model.specs.Sets.{In}
use Rattle.group_model.proofs.ListFacts.{In-nothing}
use Rattle.causal_history.specs.Rows.{Row, cards_of, history_of}
use Rattle.add_ops.proofs.tests.adding.nothing.Goals as goal

pub invariant_of-result : goal.invariant_of-result
unfolding history_of
invariant_of-result c = record {
  of_set = λ card i. absurd (In-nothing (subst (λ (rows : List Row). In card (cards_of rows)) c.new.ensures i));
  senders = λ m i. absurd (In-nothing (subst (λ (rows : List Row). In m (history_of rows)) c.new.ensures i));
}
