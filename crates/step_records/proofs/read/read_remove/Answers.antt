use Rattle.std.proofs.Common.{arith}
use Rattle.step_records.proofs.StepReads.{no-target}
use Rattle.step_records.proofs.read.read_remove.Goals as goal

pub returns-in_err-target : goal.returns-in_err-target
returns-in_err-target g c =
    rw c.from_residual.ensures (no-target g.K.Kem c.args.random.now c.args.bytes.now (omega arith) c.in_err-target.ensures.cases)
