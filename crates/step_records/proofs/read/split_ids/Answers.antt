use Rattle.step_records.proofs.StepReads.{cut-is, cut-sizes}
use Rattle.step_records.proofs.read.split_ids.Goals as goal

pub returns-clause-parts : goal.returns-clause-parts
returns-clause-parts c =
    cut-is c.args.bytes.now c.in_ok-first.first.now c.in_ok-first.rest.now c.in_ok-second.second.now 32 c.in_ok-first.ensures.cases.0
    c.in_ok-first.ensures.cases.1 c.in_ok-second.ensures.cases.same

pub returns-clause-sizes : goal.returns-clause-sizes
returns-clause-sizes c =
    cut-sizes c.args.bytes.now c.in_ok-first.first.now c.in_ok-first.rest.now c.in_ok-second.second.now 32 c.in_ok-first.ensures.cases.0
    c.in_ok-first.ensures.cases.2 c.in_ok-second.ensures.cases.same c.in_ok-second.ensures.cases.long
