use Rattle.std.proofs.Common.{refl, sym}
use Rattle.welcome_history.proofs.tests.read.Goals as goal

-- what is ready may be read
pub read_welcome-requires : goal.read_welcome-requires
read_welcome-requires c =
    let packet = c.args.packet.now in
    let spelled = (c.packets_are_in_order.ensures.order packet c.bytes-bytes.result.now c.bytes-bytes.ensures).header in
    let added = c.targets_say_the_kind.ensures.add packet.header spelled (c.in-Some.ensures.add.0 refl) in
    let carried = sym c.in-Some.ensures.history in (
      c.in-Some._welcome,
      carried,
      c.what_is_ready_may_be_read.ensures _ packet c.in-Some._welcome added.0.0.0 added.2 carried
          (rw c.in-Ready.is at c.in_ok-judge_first.ensures),
    )
