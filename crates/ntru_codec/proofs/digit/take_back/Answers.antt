use Rattle.std.proofs.Common.{◌-◌, ◌<◌, length, arith}
use Rattle.ntru_codec.proofs.Bytes.{room_one, TakesBack-start, TakesBack-step, TakesBack-end}
use Rattle.ntru_codec.proofs.digit.take_back.Goals as goal

pub loop-i-init : goal.loop-i-init
loop-i-init c = TakesBack-start c.args.bytes.now c.args.left c.requires

pub overflow_mul-value : goal.overflow_mul-value
overflow_mul-value c =
    omega (arith, room_one c.loop-i.value (length c.args.bytes.now - c.loop-i.i) (omega arith) c.loop-i.invariant.fits)

pub overflow_add-value : goal.overflow_add-value
overflow_add-value c =
    omega (arith, room_one c.loop-i.value (length c.args.bytes.now - c.loop-i.i) (omega arith) c.loop-i.invariant.fits, c.type_inv.bytes (length c.args.bytes.now - 1 - c.loop-i.i))

pub loop-i-preserved : goal.loop-i-preserved
loop-i-preserved c =
    let byte : c.from.result < 256 = omega (arith, c.from.ensures, c.type_inv.bytes (length c.args.bytes.now - 1 - c.loop-i.i)) in
    TakesBack-step c.args.bytes.now c.args.left c.loop-i.i c.loop-i.value c.from.result c.loop-i-test.true byte c.from.ensures c.loop-i.invariant

pub returns : goal.returns
returns c =
    let both = TakesBack-end c.args.bytes.now c.args.left c.loop-i.i c.loop-i.value (omega arith) c.loop-i.invariant in
    record { bytes = both.0; left = both.1 }
