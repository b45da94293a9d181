use Rattle.std.proofs.Common.{sym}
use Rattle.add_ops.proofs.tests.taking.is_add.Goals as goal

pub returns-in-Add : goal.returns-in-Add
returns-in-Add c = λ t. (c.in-Add._target.0.0, sym c.in-Add.ensures)
