use Rattle.std.proofs.Common.{◌≡◌, ◌⊎◌, ◌+◌, ◌-◌, true, sym, ◌∙◌, subst, arith}
use Rattle.causal_history.specs.Bits.{mark}
use Rattle.causal_history.specs.Rows.{history_of}
use Rattle.member_view.proofs.Oldest.{rows-length, message-at}
use Rattle.member_view.proofs.Waits.{OlderSwept, older-start, older-step, older-end, those-more}
use Rattle.member_view.proofs.waiting.mark_older.Goals as goal

pub loop-index-init : goal.loop-index-init
loop-index-init c = record {
  within = let e = c.count-index.ensures.count in omega arith;
  swept = older-start (history_of c.args.history.now) (mark c.args.of.now) c.args.id.now.0.0 (mark c.clear.new.self) c.count-index.result
      (let e = c.count-index.ensures.count in let f = rows-length c.args.history.now in omega arith) c.clear.ensures;
}

pub loop-index-preserved-then-leads : goal.loop-index-preserved-then-leads
loop-index-preserved-then-leads c =
    let w = c.loop-index.invariant.within in
    let t = message-at (history_of c.args.history.now) (c.loop-index.index - 1) (let f = rows-length c.args.history.now in omega arith) in record {
      within = omega arith;
      swept = older-step (history_of c.args.history.now) c.count-index.ensures.kept.history (mark c.args.of.now) c.requires c.args.id.now.0.0
          (mark c.loop-index.into) (mark c.mark_predecessors.new.into) (c.loop-index.index - 1) t.by t.is_row (sym c.has.ensures ∙ c.if-has.true)
          ((c.leads.ensures t.by t.is_row).0 c.if-leads.true)
          (subst (λ z. OlderSwept (history_of c.args.history.now) (mark c.args.of.now) c.args.id.now.0.0 (mark c.loop-index.into) z)
          (omega arith) c.loop-index.invariant.swept)
          (those-more (history_of c.args.history.now) t.by.predecessors (mark c.loop-index.into) (mark c.mark_predecessors.new.into)
          (c.mark_predecessors.ensures t.by t.is_row));
    }

pub returns : goal.returns
returns c = λ i m r. older-end (history_of c.args.history.now) (mark c.args.of.now) c.args.id.now.0.0 (mark c.loop-index.into) c.loop-index.index
    (omega arith) c.loop-index.invariant.swept i m r
