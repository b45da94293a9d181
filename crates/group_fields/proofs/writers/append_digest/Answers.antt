use Rattle.std.proofs.Common.{arith}
use Rattle.group_fields.specs.Layouts.{digest}
use Rattle.group_fields.proofs.WriteSteps.{appended, digest_spelled, id_appended}
use Rattle.group_fields.proofs.writers.append_digest.Goals as goal

pub returns-clause-appends : goal.returns-clause-appends
returns-clause-appends c =
    appended digest c.args.id c.args.bytes.now.items c.extend_from_slice.new.self.items c.args.id.0 c.extend_from_slice.result
    c.extend_from_slice.ensures.items (digest_spelled c.args.id (omega arith))

pub returns-clause-above : goal.returns-clause-above
returns-clause-above c =
    id_appended c.args.id c.args.bytes.now.items c.extend_from_slice.new.self.items c.extend_from_slice.result
    c.extend_from_slice.ensures.items (omega arith)
