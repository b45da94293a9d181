use Rattle.group_model.proofs.Numbers.{number-in}
use Rattle.group_messages.specs.Messages.{message_of}
use Rattle.causal_history.specs.Rows.{history_of}
use Rattle.forwarding.proofs.tests.crowd_of.Goals as goal

-- a row is a message of the history
pub forward_to-requires-clause-row : goal.forward_to-requires-clause-row
forward_to-requires-clause-row c =
    number-in (history_of c.args.history.now) c.args.row (message_of c.row.result) c.row.ensures.message
