use Rattle.std.proofs.Common.{arith, ap, length}
use Rattle.causal_history.proofs.RowFacts.{id-below, id-now, id-missing}
use Rattle.causal_history.proofs.history.History.find.Goals as goal

pub overflow_cast-result : goal.overflow_cast-result
overflow_cast-result c = omega (
  arith,
  id-below c.self.inside.table.rows.items c.args.self.now c.self.view_is c.self.inside.table.ids.keys
      c.self.invariant.ids_are c.in-Some.at c.args.id.now.0.0 c.in-Some.ensures,
  c.self.invariant.kept.few,
  ap length c.self.view_is,
)

pub returns-in-Some-clause-number : goal.returns-in-Some-clause-number
returns-in-Some-clause-number c = id-now c.self.inside.table.rows.items c.args.self.now c.self.view_is c.self.inside.table.ids.keys
    c.self.invariant.ids_are c.in-Some.at c.args.id.now.0.0 c.in-Some.ensures

pub returns-in-Some-clause-within : goal.returns-in-Some-clause-within
returns-in-Some-clause-within c = id-below c.self.inside.table.rows.items c.args.self.now c.self.view_is c.self.inside.table.ids.keys
    c.self.invariant.ids_are c.in-Some.at c.args.id.now.0.0 c.in-Some.ensures

pub returns-in-None-clause-number : goal.returns-in-None-clause-number
returns-in-None-clause-number c = id-missing c.self.inside.table.rows.items c.args.self.now c.self.view_is c.self.inside.table.ids.keys
    c.self.invariant.ids_are c.args.id.now.0.0 c.in-None.ensures
