use Rattle.std.proofs.Common.{arith}
use Rattle.ring_solve.proofs.Solving.{length-le-sum}
use Rattle.ring_solve.proofs.free_column.Goals as goal

pub unreachable-requires : goal.unreachable-requires
unreachable-requires c =
    let all = length-le-sum c.args.kept.now (λ k lt. c.loop-c.invariant k (omega arith)) in
    let few = c.requires in
    omega arith
