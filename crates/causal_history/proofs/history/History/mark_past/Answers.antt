use Rattle.std.proofs.Common.{◌-◌, List, sym, ◌∙◌, subst, arith}
use Rattle.group_fields.specs.declared.ids.Digest.{Digest}
use Rattle.group_messages.specs.Messages.{ids_of}
use Rattle.causal_history.specs.Bits.{mark}
use Rattle.causal_history.specs.Numbered.{MarksMore}
use Rattle.causal_history.specs.Rows.{history_of}
use Rattle.causal_history.proofs.Numbers.{Swept, number-at, swept-start, swept-skip, swept-step, swept-end}
use Rattle.causal_history.proofs.RowFacts.{history-length}
use Rattle.causal_history.proofs.history.History.mark_past.Goals as goal

pub loop-at-init : goal.loop-at-init
loop-at-init c = record {
  within = omega (arith, c.count-at.ensures.count);
  swept = subst (λ z. Swept (history_of c.args.self.now) (ids_of c.args.header.now.predecessors) (mark c.mark.new.into) z)
      (history-length c.args.self.now ∙ sym c.count-at.ensures.count)
      (swept-start (history_of c.args.self.now) (ids_of c.args.header.now.predecessors) (mark c.clear.new.self) (mark c.mark.new.into) c.clear.ensures
      (subst (λ (z : List Digest). MarksMore (history_of c.args.self.now) (ids_of z) (mark c.clear.new.self) (mark c.mark.new.into))
      c.predecessors.ensures c.mark.ensures));
}

pub loop-at-preserved-then-has : goal.loop-at-preserved-then-has
loop-at-preserved-then-has c =
    let r = number-at (history_of c.args.self.now) (c.loop-at.at - 1)
    (omega (arith, c.loop-at-test.true, c.loop-at.invariant.within, history-length c.args.self.now)) in
    record {
      within = omega (arith, c.loop-at.invariant.within);
      swept = swept-step (history_of c.args.self.now) c.count-at.ensures.kept.history (ids_of c.args.header.now.predecessors) (mark c.loop-at.into)
          (mark c.mark_predecessors.new.into) (c.loop-at.at - 1) r.0 r.1 (sym c.if-has.ensures)
          (subst (λ z. Swept (history_of c.args.self.now) (ids_of c.args.header.now.predecessors) (mark c.loop-at.into) z) (omega (arith, c.loop-at-test.true)) c.loop-at.invariant.swept)
          (c.mark_predecessors.ensures r.0 r.1);
    }

pub loop-at-preserved : goal.loop-at-preserved
loop-at-preserved c = record {
  within = omega (arith, c.loop-at.invariant.within);
  swept = swept-skip (history_of c.args.self.now) (ids_of c.args.header.now.predecessors) (mark c.loop-at.into) (c.loop-at.at - 1)
      (sym c.if-has.ensures)
      (subst (λ z. Swept (history_of c.args.self.now) (ids_of c.args.header.now.predecessors) (mark c.loop-at.into) z) (omega (arith, c.loop-at-test.true)) c.loop-at.invariant.swept);
}

pub returns : goal.returns
returns c = swept-end (history_of c.args.self.now) c.count-at.ensures.kept.history (ids_of c.args.header.now.predecessors) (mark c.loop-at.into)
    (subst (λ z. Swept (history_of c.args.self.now) (ids_of c.args.header.now.predecessors) (mark c.loop-at.into) z) (omega (arith, c.loop-at-test.false)) c.loop-at.invariant.swept)
