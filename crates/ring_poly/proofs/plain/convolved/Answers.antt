use Rattle.std.proofs.Common.{arith, ◌+◌, ap}
use Rattle.std.proofs.lemmas.Int.{ints}
use Rattle.std.proofs.lemmas.List.{take_all}
use Rattle.ring_poly.specs.Ring.{weighted}
use Rattle.ring_poly.proofs.Casts.{multiplied_long}
use Rattle.ring_poly.proofs.Weighted.{back, Within-front, convolution_is}
use Rattle.ring_poly.proofs.Terms.{met_within, back_within, one_more}
use Rattle.ring_poly.proofs.plain.convolved.Goals as goal

pub overflow_add-sum : goal.overflow_add-sum
overflow_add-sum c =
    let i = c.loop-i.i in
    let a = c.args.a.now in
    let b = c.args.b.now in
    let k = c.args.k in
    let within_b = back_within 2295 b c.requires.b_within k in
    let term = multiplied_long _ _ (c.requires.a_within i) (met_within b k i c.met.result c.requires.b_within c.met.ensures.low c.met.ensures.high) in
    let more = one_more a b k i c.met.result (omega arith) c.met.ensures.low c.met.ensures.high in
    let within = Within-front 2295 2295 761 a (i + 1) (back b k) (omega arith) (omega arith) c.requires.a_within within_b in
    let low = within.0 in
    let high = within.1 in
    omega (arith, ints)

pub loop-i-preserved : goal.loop-i-preserved
loop-i-preserved c =
    let i = c.loop-i.i in
    let a = c.args.a.now in
    let b = c.args.b.now in
    let k = c.args.k in
    let within_b = back_within 2295 b c.requires.b_within k in
    let term = multiplied_long _ _ (c.requires.a_within i) (met_within b k i c.met.result c.requires.b_within c.met.ensures.low c.met.ensures.high) in
    let more = one_more a b k i c.met.result (omega arith) c.met.ensures.low c.met.ensures.high in
    let within = Within-front 2295 2295 761 a (i + 1) (back b k) (omega arith) (omega arith) c.requires.a_within within_b in
    let low = within.0 in
    let high = within.1 in
    omega (arith, ints)

pub returns-clause-exact : goal.returns-clause-exact
returns-clause-exact c =
    let a = c.args.a.now in
    let whole = ap (λ xs. weighted xs (back c.args.b.now c.args.k)) (take_all c.loop-i.i a (omega arith)) in
    let is = convolution_is a c.args.b.now c.args.k in
    omega (arith, ints)

pub returns-clause-within : goal.returns-clause-within
returns-clause-within c =
    let within = Within-front 2295 2295 761 c.args.a.now c.loop-i.i (back c.args.b.now c.args.k) (omega arith) (omega arith) c.requires.a_within (back_within 2295 c.args.b.now c.requires.b_within c.args.k) in
    let low = within.0 in
    let high = within.1 in
    (omega (arith, ints), omega (arith, ints))
