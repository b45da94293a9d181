use Rattle.std.proofs.Common.{arith}
use Rattle.group_model.specs.Membership.{ids_named}
use Rattle.causal_history.specs.Rows.{history_of}
use Rattle.causal_history.proofs.ListMore.{get-in}
use Rattle.causal_history.proofs.PushTests.{length-with_known, length-with_new}
use Rattle.causal_history.proofs.history.History.count_new_one.Goals as goal

pub returns-in-Some-clause-count : goal.returns-in-Some-clause-count
returns-in-Some-clause-count c = omega (
  arith,
  length-with_known (ids_named (history_of c.args.self.now)) c.args.id.now.0.0
      (get-in _ c.in-Some.field-0 c.args.id.now.0.0 c.in-Some.ensures.place),
)

pub returns-in-None-clause-count : goal.returns-in-None-clause-count
returns-in-None-clause-count c = length-with_new (ids_named (history_of c.args.self.now)) c.args.id.now.0.0 c.in-None.ensures.place
