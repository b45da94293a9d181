use Rattle.std.proofs.Common.{[]}
use Rattle.two_party.proofs.Drawing.{two-left, next-two, rows-more, usable-more}
use Rattle.two_party.proofs.draws.rows_of.Goals as goal

pub next_draw-draw-requires : goal.next_draw-draw-requires
next_draw-draw-requires g c =
    two-left g.K.Kem c.args.seed.now c.args.to.now c.loop-member.member-index (record { 0 = record { 0 = [] } }) _ c.loop-member-test.true c.loop-member.invariant.pairs

pub loop-member-preserved : goal.loop-member-preserved
loop-member-preserved g c =
    let two = next-two g.K.Kem c.args.seed.now c.args.to.now c.loop-member.member-index _ _ _ c.next_draw-draw.result c.loop-member-test.true c.loop-member.invariant.pairs c.next_draw-draw.ensures.secrets c.next_draw-draw.ensures.own c.next_draw-draw.ensures.other c.next_draw-draw.ensures.encapsulation in record {
      rows = rw c.in_ok-push.ensures.items (rows-more g.K.Kem c.args.seed.now c.args.to.now c.loop-member.member-index _ c.loop-member.rows.items c.next_draw-draw.result c.loop-member-test.true c.loop-member.invariant.rows two.0);
      usable = rw c.in_ok-push.ensures.items (usable-more c.loop-member.rows.items _ c.next_draw-draw.result c.loop-member.invariant.usable);
      pairs = two.1;
    }
