use Rattle.std.proofs.Common.{arith}
use Rattle.causal_history.specs.Keeping.{roster_of}
use Rattle.causal_history.proofs.TableFacts.{enrolled-step}
use Rattle.causal_history.proofs.table.enroll_all.Goals as goal

pub loop-at-preserved : goal.loop-at-preserved
loop-at-preserved c = record {
  roster = enrolled-step c.args.row c.loop-at.at c.args.ids.now c.id.result
      (roster_of c.loop-at.named.keys c.loop-at.cards.items) (roster_of c.enroll_one.new.named.keys c.enroll_one.new.cards.items) _
      c.id.ensures c.enroll_one.ensures.roster c.loop-at.invariant.roster;
  room = omega (arith, c.loop-at.invariant.room, c.enroll_one.ensures.room);
  capacity = omega (arith, c.loop-at.invariant.capacity, c.enroll_one.ensures.room_of_cards);
  size = omega (arith, c.loop-at.invariant.size, c.enroll_one.ensures.few);
}
