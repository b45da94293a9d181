use Rattle.std.proofs.Common.{to_z, w32}
use Rattle.std.specs.List.{All}
use Rattle.ring_poly.specs.Ring.{IsCentred}
use Rattle.primitive_bench.proofs.work.inverses.Given as goal

abbrev pub invariant-loop : goal.invariant-loop
invariant-loop g l = All (IsCentred (to_z w32 g.row.M)) l.last
