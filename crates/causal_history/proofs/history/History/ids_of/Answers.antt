use Rattle.std.proofs.Common.{sym, ◌∙◌, arith}
use Rattle.causal_history.specs.Bits.{mark}
use Rattle.causal_history.specs.Rows.{history_of}
use Rattle.causal_history.proofs.HeadMarks.{ids-start, ids-skip, ids-put}
use Rattle.causal_history.proofs.Numbers.{number-at}
use Rattle.causal_history.proofs.RowFacts.{history-length}
use Rattle.causal_history.proofs.history.History.ids_of.Goals as goal
use Rattle.causal_history.proofs.history.History.ids_of.Goals.{then-has+in_ok-push, else-has}

pub loop-at-init : goal.loop-at-init
loop-at-init c = rw c.new-ids.ensures.items (ids-start (history_of c.args.self.now) (mark c.args.of.now))

pub loop-at-preserved : goal.loop-at-preserved
loop-at-preserved c = elim c.if-has.branch [
  | then-has+in_ok-push w ↦
      let r = number-at (history_of c.args.self.now) c.loop-at.at
      (omega (arith, c.loop-at-test.true, c.count-at-end.ensures.count, history-length c.args.self.now)) in
      rw w.ids-is (rw w.in_ok-push.ensures.items (ids-put (history_of c.args.self.now) c.count-at-end.ensures.kept.history (mark c.args.of.now) c.loop-at.at
      c.loop-at.ids.items r.0 w.id.result.0.0 r.1 (sym c.has.ensures ∙ w.if-has.true) (w.id.ensures.message r.0 r.1) c.loop-at.invariant))
  | else-has w ↦
      rw w.ids-is (ids-skip (history_of c.args.self.now) (mark c.args.of.now) c.loop-at.at c.loop-at.ids.items
      (sym c.has.ensures ∙ w.if-has.false) c.loop-at.invariant)
]
