use Rattle.std.proofs.Common.{List, ℕ, subst}
use Rattle.std.specs.Prelude.{IfOk}
use Rattle.step_records.specs.Records.{Tells}
use Rattle.step_records.proofs.StepReads.{whole-is}
use Rattle.step_records.proofs.read.read_record.Goals as goal

pub returns : goal.returns
returns g c =
    let cut = c.in-Some-split_first_chunk.ensures.cases in
    subst (λ (b : List ℕ). IfOk c.read_kind.result (λ read. Tells g.K.Kem b read))
    (whole-is c.args.bytes.now c.in-Some.rest.now c.in-Some-split_first_chunk.random.now c.in-Some-split_first_chunk.rest.now c.in-Some.kind.now
    c.in-Some.ensures.cases.0 cut.0 cut.1)
    c.read_kind.ensures
