use Rattle.std.proofs.Common.{arith, ◌+◌}
use Rattle.std.proofs.lemmas.Int.{ints}
use Rattle.ring_poly.specs.Ring.{coefficient}
use Rattle.ring_poly.proofs.Casts.{multiplied}
use Rattle.ring_poly.proofs.Weighted.{weighted_more, Within-front}
use Rattle.ring_poly.proofs.short_dot.Goals as goal

pub overflow_add-sum : goal.overflow_add-sum
overflow_add-sum c =
    let i = c.loop-i.i in
    let a = c.args.a.now in
    let term = multiplied _ _ (c.requires.a_within i) (c.requires.b_within i) in
    let more = weighted_more a i (coefficient c.args.b.now) (omega arith) in
    let within = Within-front 2295 4590 192 a (i + 1) _ (omega arith) (omega arith) c.requires.a_within c.requires.b_within in
    let low = within.0 in
    let high = within.1 in
    omega (arith, ints)

pub loop-i-preserved : goal.loop-i-preserved
loop-i-preserved c =
    let i = c.loop-i.i in
    let a = c.args.a.now in
    let term = multiplied _ _ (c.requires.a_within i) (c.requires.b_within i) in
    let more = weighted_more a i (coefficient c.args.b.now) (omega arith) in
    let within = Within-front 2295 4590 192 a (i + 1) _ (omega arith) (omega arith) c.requires.a_within c.requires.b_within in
    let low = within.0 in
    let high = within.1 in
    omega (arith, ints)
