use Rattle.std.proofs.Common.{sym}
use Rattle.welcome_history.proofs.reading.read_welcome.Goals as goal

-- what a packet carries is in order
pub read_rows-requires-clause-ordered : goal.read_rows-requires-clause-ordered
read_rows-requires-clause-ordered c = (
  c.args.packet.now.header.set,
  (c.packets_are_in_order.ensures.order c.args.packet.now c.bytes-bytes.result.now c.bytes-bytes.ensures).body.history
      c.in-Some.welcome (sym c.in-Some.ensures.history),
)
