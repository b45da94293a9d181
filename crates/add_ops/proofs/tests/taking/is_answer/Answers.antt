use Rattle.std.proofs.Common.{sym}
use Rattle.add_ops.proofs.tests.taking.is_answer.Goals as goal

pub returns-in-AddAck : goal.returns-in-AddAck
returns-in-AddAck c = λ t. (c.in-AddAck._operation.0.0, sym c.in-AddAck.ensures)
