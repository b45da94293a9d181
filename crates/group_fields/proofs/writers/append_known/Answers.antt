use Rattle.group_fields.specs.Layouts.{known}
use Rattle.group_fields.proofs.WriteSteps.{appended, known_spelled}
use Rattle.group_fields.proofs.writers.append_known.Goals as goal

pub returns-clause-appends : goal.returns-clause-appends
returns-clause-appends c =
    let wanted = c.args.wanted.now in
    appended (known wanted) tt c.args.bytes.now.items c.extend_from_slice.new.self.items wanted c.extend_from_slice.result
    c.extend_from_slice.ensures.items (known_spelled wanted)
