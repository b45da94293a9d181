use Rattle.group_model.specs.Membership.{ids_named}
use Rattle.group_model.proofs.ListFacts.{has-In}
use Rattle.causal_history.specs.Rows.{history_of}
use Rattle.add_ops.proofs.tests.taking.take.Goals as goal

pub take_add-requires-clause-senders : goal.take_add-requires-clause-senders
take_add-requires-clause-senders c = λ m i.
    has-In (ids_named (history_of c.args.told.now.history)) m.sender (c.args.told.now.senders m i)
