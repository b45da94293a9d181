use Rattle.std.proofs.Common.{length}
use Rattle.group_fields.specs.Layouts.{bytes_of}
use Rattle.group_fields.proofs.WriteSteps.{appended, bytes_spelled}
use Rattle.group_fields.proofs.writers.append_bytes.Goals as goal

pub returns-clause-appends : goal.returns-clause-appends
returns-clause-appends c =
    let part = c.args.part.now in
    appended (bytes_of (length part)) part c.args.bytes.now.items c.extend_from_slice.new.self.items part c.extend_from_slice.result
    c.extend_from_slice.ensures.items (bytes_spelled part)
