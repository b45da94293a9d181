use Rattle.std.proofs.Common.{arith}
use Rattle.std.proofs.lemmas.Int.{ints}
use Rattle.ring_poly.proofs.Casts.{rest_is}
use Rattle.ring_poly.proofs.Congruences.{IsCongruent-rem}
use Rattle.ring_poly.proofs.remainder.Goals as goal

pub returns-clause-congruent : goal.returns-clause-congruent
returns-clause-congruent g c =
    let least = c.requires.least in
    let most = c.requires.most in
    IsCongruent-rem _ _ _ (rest_is _ _ c.ranges.value (omega (arith, ints)) (omega (arith, ints)))
