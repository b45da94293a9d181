use Rattle.std.proofs.Common.{arith}
use Rattle.std.proofs.lemmas.Int.{ints}
use Rattle.ring_poly.proofs.Congruences.{IsCongruent-more, IsCongruent-less, IsCongruent-then, IsCongruent-same, IsCongruent-onto}
use Rattle.ring_poly.proofs.Centred.{half_of}
use Rattle.ring_poly.proofs.reduce.Goals as goal

pub returns-then-rest-clause-congruent : goal.returns-then-rest-clause-congruent
returns-then-rest-clause-congruent g c =
    IsCongruent-onto _ _ _ _ (IsCongruent-less _ _ _ _ c.remainder-rest.ensures.congruent (omega (arith, ints))) (omega (arith, ints))

pub returns-then-rest-2-clause-congruent : goal.returns-then-rest-2-clause-congruent
returns-then-rest-2-clause-congruent g c =
    IsCongruent-onto _ _ _ _ (IsCongruent-more _ _ _ _ c.remainder-rest.ensures.congruent (omega (arith, ints))) (omega (arith, ints))

pub returns-then-rest-2-clause-centred : goal.returns-then-rest-2-clause-centred
returns-then-rest-2-clause-centred g c =
    let half = half_of _ c.requires in
    let odd = half.1 in
    (omega (arith, ints), omega (arith, ints))

pub returns-else-rest-2-clause-congruent : goal.returns-else-rest-2-clause-congruent
returns-else-rest-2-clause-congruent g c =
    IsCongruent-onto _ _ _ _ (IsCongruent-then _ _ _ _ (IsCongruent-same _ _ _ (omega (arith, ints))) c.remainder-rest.ensures.congruent) (omega (arith, ints))

pub returns-else-rest-2-clause-centred : goal.returns-else-rest-2-clause-centred
returns-else-rest-2-clause-centred g c =
    let half = half_of _ c.requires in
    let odd = half.1 in
    (omega (arith, ints), omega (arith, ints))

pub returns-then-rest-clause-centred : goal.returns-then-rest-clause-centred
returns-then-rest-clause-centred g c =
    let half = half_of _ c.requires in
    let odd = half.1 in
    (omega (arith, ints), omega (arith, ints))
