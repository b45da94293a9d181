use Rattle.std.proofs.Common.{pos}
use Rattle.std.specs.List.{All}
use Rattle.ring_poly.specs.Ring.{IsCentred}
use Rattle.primitive_bench.proofs.work.product_3.Given as goal

abbrev pub invariant-loop : goal.invariant-loop
invariant-loop l = All (IsCentred (pos 3)) l.last
