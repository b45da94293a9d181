use Rattle.std.proofs.Common.{arith}
use Rattle.group_model.specs.Membership.{ids_named}
use Rattle.causal_history.specs.Rows.{history_of}
use Rattle.causal_history.proofs.ListMore.{get-in}
use Rattle.causal_history.proofs.PushTests.{count-known, count-new}
use Rattle.causal_history.proofs.TableFacts.{none-is, some-is}
use Rattle.causal_history.proofs.history.History.count_new.Goals as goal
use Rattle.causal_history.proofs.history.History.count_new.Goals.{then-is_none, else-is_none}

pub loop-at-preserved : goal.loop-at-preserved
loop-at-preserved c = elim c.if-is_none.branch [
  | then-is_none w ↦ rw w.count-is (record {
    count = count-new (ids_named (history_of c.args.self.now)) c.args.ids.now c.loop-at.at c.loop-at.count c.id.result c.requires.distinct c.id.ensures
        (none-is _ _ c.place.result w.if-is_none.ensures c.place.ensures.place) c.loop-at.invariant.count;
    few = omega (arith, c.loop-at.invariant.few);
  })
  | else-is_none w ↦ rw w.count-is (record {
    count = (let s = some-is _ _ c.place.result w.if-is_none.ensures c.place.ensures.place in
        count-known (ids_named (history_of c.args.self.now)) c.args.ids.now c.loop-at.at c.loop-at.count c.id.result c.id.ensures
        (get-in _ s.0 c.id.result.0 s.2) c.loop-at.invariant.count);
    few = omega (arith, c.loop-at.invariant.few);
  })
]
