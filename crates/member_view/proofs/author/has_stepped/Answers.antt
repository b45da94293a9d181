use Rattle.std.proofs.Common.{◌≡◌, true, false, sym, ◌∙◌, arith, refl}
use Rattle.causal_history.specs.Bits.{mark}
use Rattle.causal_history.specs.Rows.{history_of}
use Rattle.member_view.proofs.Oldest.{rows-length, message-at, number-marked}
use Rattle.member_view.proofs.Orders.{stepped-start, stepped-more, stepped-skipped, stepped-end}
use Rattle.member_view.proofs.author.has_stepped.Goals as goal
use Rattle.member_view.proofs.author.has_stepped.Goals.{else-has-via-then-has+then-is_by+else-steps, else-has-via-then-has+else-is_by, else-has-via-else-has}

pub loop-index-init : goal.loop-index-init
loop-index-init c = stepped-start (mark c.args.of.now) (history_of c.args.history.now) c.args.author.now.id.0.0

pub returns-then-steps : goal.returns-then-steps
returns-then-steps c =
    let t = message-at (history_of c.args.history.now) c.loop-index.index
    (let e = c.count-index-end.ensures.count in let f = rows-length c.args.history.now in omega arith) in (
      λ y. record {
        by = t.by;
        there_is = number-marked (history_of c.args.history.now) (mark c.args.of.now) c.loop-index.index t.by t.is_row (sym c.has.ensures ∙ c.if-has.true);
        own = (c.is_by.ensures t.by t.is_row).0 c.if-is_by.true;
        steps = (c.steps.ensures t.by t.is_row).0 c.if-steps.true;
      },
      λ s. refl,
    )

pub loop-index-preserved : goal.loop-index-preserved
loop-index-preserved c =
    let t = message-at (history_of c.args.history.now) c.loop-index.index
    (let e = c.count-index-end.ensures.count in let f = rows-length c.args.history.now in omega arith) in
    elim c.else-has.branch [
      | else-has-via-then-has+then-is_by+else-steps w ↦ stepped-more (mark c.args.of.now) (history_of c.args.history.now) c.args.author.now.id.0.0
          c.loop-index.index t.by t.is_row (sym c.has.ensures ∙ w.if-has.true)
          (λ k. let y = (w.steps.ensures t.by t.is_row).1 k.1 in let n = w.if-steps.false in cc) c.loop-index.invariant
      | else-has-via-then-has+else-is_by w ↦ stepped-more (mark c.args.of.now) (history_of c.args.history.now) c.args.author.now.id.0.0
          c.loop-index.index t.by t.is_row (sym c.has.ensures ∙ w.if-has.true)
          (λ k. let y = (w.is_by.ensures t.by t.is_row).1 k.0 in let n = w.if-is_by.false in cc) c.loop-index.invariant
      | else-has-via-else-has w ↦ stepped-skipped (mark c.args.of.now) (history_of c.args.history.now) c.args.author.now.id.0.0
          c.loop-index.index t.by t.is_row (sym c.has.ensures ∙ w.if-has.false) c.loop-index.invariant
    ]

pub returns : goal.returns
returns c = (
  λ y. absurd (let e : false ≡ true = y in cc),
  λ s. absurd (stepped-end (mark c.args.of.now) (history_of c.args.history.now) c.args.author.now.id.0.0 c.loop-index.index
      (let e = c.count-index-end.ensures.count in let f = rows-length c.args.history.now in omega arith) c.loop-index.invariant s),
)
