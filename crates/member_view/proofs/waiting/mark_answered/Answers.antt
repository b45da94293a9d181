use Rattle.std.proofs.Common.{sym, ◌∙◌, arith}
use Rattle.causal_history.specs.Bits.{mark}
use Rattle.causal_history.specs.Rows.{history_of}
use Rattle.member_view.proofs.Oldest.{rows-length, message-at}
use Rattle.member_view.proofs.Waits.{answered-start, answered-marked, answered-skipped, answered-end}
use Rattle.member_view.proofs.waiting.mark_answered.Goals as goal
use Rattle.member_view.proofs.waiting.mark_answered.Goals.{then-has, else-has}

pub loop-index-init : goal.loop-index-init
loop-index-init c = answered-start (history_of c.args.history.now) (mark c.args.of.now) (mark c.args.into.now) c.args.author.now.id.0.0

pub loop-index-preserved : goal.loop-index-preserved
loop-index-preserved c =
    let t = message-at (history_of c.args.history.now) c.loop-index.index
    (let e = c.count-index-end.ensures.count in let f = rows-length c.args.history.now in omega arith) in
    elim c.if-has.branch [
      | then-has w ↦ rw w.into-is (answered-marked (history_of c.args.history.now) (mark c.args.of.now) (mark c.args.into.now) (mark c.loop-index.into)
          (mark w.mark_answer.new.into) c.loop-index.index t.by c.args.author.now.id.0.0 t.is_row (sym c.has.ensures ∙ w.if-has.true)
          c.loop-index.invariant (w.mark_answer.ensures t.by t.is_row))
      | else-has w ↦ rw w.into-is (answered-skipped (history_of c.args.history.now) (mark c.args.of.now) (mark c.args.into.now) (mark c.loop-index.into)
          c.loop-index.index t.by c.args.author.now.id.0.0 t.is_row (sym c.has.ensures ∙ w.if-has.false) c.loop-index.invariant)
    ]

pub returns : goal.returns
returns c = answered-end (history_of c.args.history.now) (mark c.args.of.now) (mark c.args.into.now) (mark c.loop-index.into) c.loop-index.index
    c.args.author.now.id.0.0 (let e = c.count-index-end.ensures.count in let f = rows-length c.args.history.now in omega arith) c.loop-index.invariant
