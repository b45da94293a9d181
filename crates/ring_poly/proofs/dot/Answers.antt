use Rattle.std.proofs.Common.{arith}
use Rattle.std.proofs.lemmas.Int.{ints}
use Rattle.ring_poly.proofs.Weighted.{weighted_block, Within-front}
use Rattle.ring_poly.proofs.dot.Goals as goal

pub overflow_add-sum : goal.overflow_add-sum
overflow_add-sum c =
    let a = c.args.a.now in
    let more = weighted_block a c.args.b.now c.loop-from.from c.min-to.result (omega arith) (omega arith) in
    let within = Within-front 2295 4590 761 a c.min-to.result _ (omega arith) (omega arith) c.requires.a_within c.requires.b_within in
    let low = within.0 in
    let high = within.1 in
    let is = c.loop-from.invariant.1 in
    omega (arith, ints)

pub loop-from-preserved : goal.loop-from-preserved
loop-from-preserved c =
    let a = c.args.a.now in
    let more = weighted_block a c.args.b.now c.loop-from.from c.min-to.result (omega arith) (omega arith) in
    let within = Within-front 2295 4590 761 a c.min-to.result _ (omega arith) (omega arith) c.requires.a_within c.requires.b_within in
    let low = within.0 in
    let high = within.1 in
    let is = c.loop-from.invariant.1 in
    (omega arith, omega (arith, ints))

pub returns-clause-within : goal.returns-clause-within
returns-clause-within c =
    let within = Within-front 2295 4590 761 c.args.a.now c.loop-from.from _ (omega arith) (omega arith) c.requires.a_within c.requires.b_within in
    let low = within.0 in
    let high = within.1 in
    let is = c.loop-from.invariant.1 in
    (omega (arith, ints), omega (arith, ints))
