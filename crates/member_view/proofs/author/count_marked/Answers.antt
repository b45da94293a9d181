use Rattle.std.proofs.Common.{◌+◌, ap, sym, ◌∙◌, arith}
use Rattle.causal_history.specs.Bits.{mark}
use Rattle.causal_history.specs.Rows.{history_of}
use Rattle.member_view.proofs.Oldest.{rows-length, message-at}
use Rattle.member_view.proofs.Orders.{count-start, count-own, count-other, count-skipped, count-end}
use Rattle.member_view.proofs.author.count_marked.Goals as goal
use Rattle.member_view.proofs.author.count_marked.Goals.{then-has+then-is_by, else-has, else-has-via-then-has+else-is_by, else-has-via-else-has}

pub loop-index-init : goal.loop-index-init
loop-index-init c = record {
  counted = sym (count-start c.args.author.now.id.0.0 (mark c.args.of.now) (history_of c.args.history.now));
  few = omega arith;
}

pub loop-index-preserved : goal.loop-index-preserved
loop-index-preserved c =
    let t = message-at (history_of c.args.history.now) c.loop-index.index
    (let e = c.count-index-end.ensures.count in let f = rows-length c.args.history.now in omega arith) in
    let i = c.loop-index.invariant.counted in
    let l = c.loop-index.invariant.few in
    elim c.if-has.branch [
      | then-has+then-is_by w ↦ rw w.count-is (record {
        counted = ap (λ n. n + 1) i ∙ sym (count-own c.args.author.now.id.0.0 (mark c.args.of.now) (history_of c.args.history.now) c.loop-index.index
            t.by t.is_row (sym c.has.ensures ∙ w.if-has.true) ((w.is_by.ensures t.by t.is_row).0 w.if-is_by.true));
        few = omega arith;
      })
      | else-has w ↦ rw w.count-is (elim w.else-has.branch [
        | else-has-via-then-has+else-is_by v ↦ record {
          counted = i ∙ sym (count-other c.args.author.now.id.0.0 (mark c.args.of.now) (history_of c.args.history.now) c.loop-index.index
              t.by t.is_row (sym c.has.ensures ∙ v.if-has.true)
              (λ e. let y = (v.is_by.ensures t.by t.is_row).1 e in let n = v.if-is_by.false in cc));
          few = omega arith;
        }
        | else-has-via-else-has v ↦ record {
          counted = i ∙ sym (count-skipped c.args.author.now.id.0.0 (mark c.args.of.now) (history_of c.args.history.now) c.loop-index.index
              t.by t.is_row (sym c.has.ensures ∙ v.if-has.false));
          few = omega arith;
        }
      ])
    ]

pub returns-clause-count : goal.returns-clause-count
returns-clause-count c = c.loop-index.invariant.counted ∙ count-end c.args.author.now.id.0.0 (mark c.args.of.now) (history_of c.args.history.now)
    c.loop-index.index (let e = c.count-index-end.ensures.count in let f = rows-length c.args.history.now in omega arith)
