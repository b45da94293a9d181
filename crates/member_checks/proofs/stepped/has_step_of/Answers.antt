use Rattle.std.proofs.Common.{◌≡◌, ◌<◌, length, false, true, refl, sym, ◌∙◌, arith}
use Rattle.causal_history.specs.Rows.{history_of}
use Rattle.member_view.proofs.Oldest.{message-at, rows-length}
use Rattle.member_checks.proofs.RatchetSteps.{step-here, step-next, step-none}
use Rattle.member_checks.proofs.stepped.has_step_of.Goals as goal

pub returns-then-is_step_of : goal.returns-then-is_step_of
returns-then-is_step_of c = λ x at.
    let h = history_of c.args.history.now in
    let low : c.loop-index.index < length h = let e = c.count-index-end.ensures.count in let f = rows-length c.args.history.now in omega arith in
    let t = message-at h c.loop-index.index low in (
      λ y. step-here h x c.loop-index.index t.by t.is_row ((c.is_step_of.ensures x t.by at t.is_row).0 c.if-is_step_of.true),
      λ s. refl,
    )

pub loop-index-preserved : goal.loop-index-preserved
loop-index-preserved c = λ x at.
    let h = history_of c.args.history.now in
    let low : c.loop-index.index < length h = let e = c.count-index-end.ensures.count in let f = rows-length c.args.history.now in omega arith in
    let t = message-at h c.loop-index.index low in
    step-next h x c.loop-index.index t.by t.is_row
    (λ k. let found : false ≡ true = sym c.if-is_step_of.false ∙ (c.is_step_of.ensures x t.by at t.is_row).1 k in absurd cc)
    (c.loop-index.invariant x at)

pub returns : goal.returns
returns c = λ x at. (
  λ y. absurd (let e : false ≡ true = y in cc),
  λ s. absurd (step-none (history_of c.args.history.now) x c.loop-index.index
      (let e = c.count-index-end.ensures.count in let f = rows-length c.args.history.now in omega arith)
      (c.loop-index.invariant x at) s),
)
