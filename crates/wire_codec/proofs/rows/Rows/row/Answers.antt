use Rattle.std.proofs.Common.{arith}
use Rattle.wire_codec.proofs.RowBytes.{more_left, one_more, row_behind, some_left}
use Rattle.wire_codec.proofs.rows.Rows.row.Goals as goal

pub skip-requires : goal.skip-requires
skip-requires c = more_left c.args.self.now c.loop.rows c.loop.counter c.args.index c.loop.invariant c.loop-test.true c.requires

pub loop-preserved : goal.loop-preserved
loop-preserved c = one_more c.args.self.now c.loop.rows c.skip.new.self c.loop.counter c.loop.invariant c.skip.ensures

pub unwrap-requires : goal.unwrap-requires
unwrap-requires c =
    some_left c.args.self.now c.loop.rows c.loop.counter c.args.index c.next.result c.loop.invariant (omega (arith, c.loop-test.false, c.loop.auto.counter-end)) c.requires
    c.next.ensures.none

pub returns : goal.returns
returns c =
    row_behind c.args.self.now c.loop.rows c.next.new.self c.loop.counter c.args.index c.next.result c.unwrap.result c.loop.invariant
    (omega (arith, c.loop-test.false, c.loop.auto.counter-end)) c.next.ensures.some c.unwrap.ensures
