use Rattle.std.proofs.Common.{arith}
use Rattle.step_records.proofs.StepReads.{card-added, no-card}
use Rattle.step_records.proofs.read.read_add.Goals as goal

pub returns-in_default : goal.returns-in_default
returns-in_default g c = no-card g.K.Kem c.args.random.now c.args.bytes.now (omega arith) (λ card spells. let e = c.in_default.ensures.only card spells in cc)

pub returns : goal.returns
returns g c = card-added g.K.Kem c.args.random.now c.args.bytes.now c.in-Ok.card (omega arith) c.in-Ok.ensures.found
