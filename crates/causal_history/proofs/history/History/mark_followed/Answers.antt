use Rattle.std.proofs.Common.{sym, ◌∙◌, arith}
use Rattle.causal_history.specs.Bits.{mark}
use Rattle.causal_history.specs.Rows.{history_of}
use Rattle.causal_history.proofs.HeadMarks.{followed-skip, followed-step}
use Rattle.causal_history.proofs.Numbers.{number-at}
use Rattle.causal_history.proofs.RowFacts.{history-length}
use Rattle.causal_history.proofs.history.History.mark_followed.Goals as goal
use Rattle.causal_history.proofs.history.History.mark_followed.Goals.{then-has, else-has}

pub loop-at-preserved : goal.loop-at-preserved
loop-at-preserved c = elim c.if-has.branch [
  | then-has w ↦
      let r = number-at (history_of c.args.self.now) c.loop-at.at
      (omega (arith, c.loop-at-test.true, c.count-at-end.ensures.count, history-length c.args.self.now)) in
      rw w.into-is (followed-step (history_of c.args.self.now) (mark c.args.of.now) (mark c.loop-at.into) (mark w.mark_predecessors.new.into)
      c.loop-at.at r.0 r.1 (sym c.has.ensures ∙ w.if-has.true) (w.mark_predecessors.ensures r.0 r.1) c.loop-at.invariant)
  | else-has w ↦
      rw w.into-is (followed-skip (history_of c.args.self.now) (mark c.args.of.now) (mark c.loop-at.into) c.loop-at.at
      (sym c.has.ensures ∙ w.if-has.false) c.loop-at.invariant)
]
