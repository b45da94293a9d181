use Rattle.std.proofs.Common.{pos, arith}
use Rattle.std.proofs.lemmas.Int.{ints}
use Rattle.std.proofs.lemmas.List.Elements.{All-replicate}
use Rattle.ring_poly.specs.Ring.{IsCentred}
use Rattle.primitive_bench.proofs.work.ones.Goals as goal

pub returns-clause-q : goal.returns-clause-q
returns-clause-q c =
    let one : IsCentred (pos 4591) (pos 1) = (omega (arith, ints), omega (arith, ints)) in
    All-replicate (IsCentred (pos 4591)) 761 (pos 1) one

pub returns-clause-three : goal.returns-clause-three
returns-clause-three c =
    let one : IsCentred (pos 3) (pos 1) = (omega (arith, ints), omega (arith, ints)) in
    All-replicate (IsCentred (pos 3)) 761 (pos 1) one
