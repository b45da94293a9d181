use Rattle.std.proofs.Common.{arith}
use Rattle.step_records.proofs.StepReads.{no-cards, too-many}
use Rattle.step_records.proofs.read.read_create.Goals as goal

pub returns-then-count-gt-MOST_CARDS : goal.returns-then-count-gt-MOST_CARDS
returns-then-count-gt-MOST_CARDS g c =
    too-many g.K.Kem c.args.random.now c.args.bytes.now c.in-Some.rest.now c.in-Some.count.now (omega arith) c.in-Some.ensures.cases.0
    (omega arith)

pub returns-in_default-2 : goal.returns-in_default-2
returns-in_default-2 g c =
    no-cards g.K.Kem c.args.random.now c.args.bytes.now c.in-Some.rest.now c.in-Some.count.now (omega arith) c.in-Some.ensures.cases.0
    (rw c.in_default-2.is at c.in_ok-cards.ensures)
