use Rattle.std.proofs.Common.{arith, ap, subst, length}
use Rattle.causal_history.specs.Rows.{IsKept}
use Rattle.causal_history.proofs.history.History.count.Goals as goal

pub overflow_cast-result : goal.overflow_cast-result
overflow_cast-result c = omega (arith, c.len.ensures, c.self.inside.table.rows.ok, c.self.invariant.kept.few)

pub returns-clause-count : goal.returns-clause-count
returns-clause-count c = omega (arith, c.len.ensures, c.self.inside.table.rows.ok, ap length c.self.view_is)

pub returns-clause-kept : goal.returns-clause-kept
returns-clause-kept c = subst IsKept c.self.view_is c.self.invariant.kept
