use Rattle.std.proofs.Common.{◌≡◌, length}
use Rattle.primitive_bench.proofs.work.expand.Given as goal

abbrev pub invariant-loop : goal.invariant-loop
invariant-loop l = length l.long ≡ 64
