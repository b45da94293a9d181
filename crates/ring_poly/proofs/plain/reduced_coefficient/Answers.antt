use Rattle.std.proofs.Common.{arith, ◌+◌, ◌-◌}
use Rattle.std.proofs.lemmas.Int.{ints}
use Rattle.ring_poly.proofs.Terms.{reduced_at}
use Rattle.ring_poly.proofs.plain.reduced_coefficient.Goals as goal

pub returns-else-k-eq0 : goal.returns-else-k-eq0
returns-else-k-eq0 g c =
    let is = reduced_at g.row.P c.args.a.now c.args.b.now c.args.k (g.row.P + c.args.k - 1) (omega arith) (omega arith) in
    let one = c.convolved.ensures in
    let two = c.convolved-2.ensures in
    let three = c.convolved-else-k-eq0.ensures in
    let e1 = one.exact in let l1 = one.within.0 in let h1 = one.within.1 in
    let e2 = two.exact in let l2 = two.within.0 in let h2 = two.within.1 in
    let e3 = three.exact in let l3 = three.within.0 in let h3 = three.within.1 in
    omega (arith, ints)
