use Rattle.std.proofs.Common.{sym, subst, arith}
use Rattle.causal_history.specs.Bits.{bit, mark}
use Rattle.causal_history.specs.Rows.{history_of}
use Rattle.group_model.specs.Membership.{Names, ids_named}
use Rattle.group_model.specs.Marks.{IsCrowd, marked}
use Rattle.member_view.proofs.Oldest.{rows-length, message-at, so_far-none, so_far-all}
use Rattle.member_view.proofs.Crowds.{Moved, crowd-start, crowd-marked, crowd-skipped, crowd-named}
use Rattle.member_view.proofs.members.named.Goals as goal
use Rattle.member_view.proofs.members.named.Goals.{then-has, else-has}

pub loop-index-init : goal.loop-index-init
loop-index-init c = subst (λ z. IsCrowd (ids_named (history_of c.args.history.now)) (bit c.new-crowd.result.0) (λ x. Moved Names z x))
    (sym (so_far-none (mark c.args.of.now) (history_of c.args.history.now)))
    (crowd-start (ids_named (history_of c.args.history.now)) (bit c.new-crowd.result.0) Names c.new-crowd.ensures)

pub loop-index-preserved : goal.loop-index-preserved
loop-index-preserved c =
    let t = message-at (history_of c.args.history.now) c.loop-index.index (let e = c.count-index-end.ensures.count in let f = rows-length c.args.history.now in omega arith) in
    elim c.if-has.branch [
      | then-has w ↦ rw w.crowd-is (crowd-marked (history_of c.args.history.now) (ids_named (history_of c.args.history.now)) (mark c.args.of.now)
          (bit c.loop-index.crowd.0) (bit w.named_with_row-crowd.result.0) c.loop-index.index t.by Names t.is_row
          (sym w.if-has.ensures) c.loop-index.invariant (w.named_with_row-crowd.ensures t.by t.is_row))
      | else-has w ↦ rw w.crowd-is (crowd-skipped (history_of c.args.history.now) (ids_named (history_of c.args.history.now)) (mark c.args.of.now)
          (bit c.loop-index.crowd.0) c.loop-index.index t.by Names t.is_row (sym w.if-has.ensures) c.loop-index.invariant)
    ]

pub returns : goal.returns
returns c = crowd-named (ids_named (history_of c.args.history.now)) (bit c.loop-index.crowd.0) (marked (mark c.args.of.now) (history_of c.args.history.now))
    (subst (λ z. IsCrowd (ids_named (history_of c.args.history.now)) (bit c.loop-index.crowd.0) (λ x. Moved Names z x))
    (so_far-all (mark c.args.of.now) (history_of c.args.history.now) c.loop-index.index (let e = c.count-index-end.ensures.count in let f = rows-length c.args.history.now in omega arith))
    c.loop-index.invariant)
