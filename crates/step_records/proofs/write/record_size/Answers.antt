use Rattle.step_records.proofs.Written.{add-size}
use Rattle.step_records.proofs.write.record_size.Goals as goal

pub returns-in-Add : goal.returns-in-Add
returns-in-Add g c = λ random long.
    add-size g.K.Kem.SET c.args.input.now c.in-Add.card c.bytes.result.now random c.in-Add.is c.bytes.ensures long
