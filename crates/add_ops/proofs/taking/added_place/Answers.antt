use Rattle.causal_history.specs.Rows.{history_of}
use Rattle.group_messages.specs.Messages.{message_of}
use Rattle.add_ops.proofs.Forgotten.{added-in}
use Rattle.add_ops.proofs.taking.added_place.Goals as goal

pub unreachable-requires : goal.unreachable-requires
unreachable-requires c = c.in-None.ensures.place
    (added-in (history_of c.args.history.now) (message_of c.args.add.now) c.in-Add.target.0.0 c.in-Add.ensures)
