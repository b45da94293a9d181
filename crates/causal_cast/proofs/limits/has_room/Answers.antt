use Rattle.std.proofs.Common.{rules}
use Rattle.causal_cast.proofs.Histories.{history-length}
use Rattle.causal_cast.proofs.limits.has_room.Goals as goal

-- a row is a message
pub returns : goal.returns
returns c = rw (history-length c.args.history.now) (rw (c.count.ensures.count) (search rules))
