use Rattle.std.proofs.Common.{sym, subst, arith}
use Rattle.causal_history.specs.Bits.{bit, mark}
use Rattle.causal_history.specs.Rows.{history_of}
use Rattle.group_messages.specs.Messages.{message_of}
use Rattle.group_model.specs.Membership.{Names, Removes}
use Rattle.group_model.specs.Marks.{IsCrowd, marked}
use Rattle.member_view.specs.Crowds.{ids_with, last_of, with_last}
use Rattle.member_view.proofs.Oldest.{rows-length, message-at, so_far-none, so_far-all}
use Rattle.member_view.proofs.Crowds.{Moved, crowd-start, crowd-marked, crowd-skipped, crowd-more, crowd-members}
use Rattle.member_view.proofs.members.members_less_removed.Goals as goal
use Rattle.member_view.proofs.members.members_less_removed.Goals.{then-has, else-has, in-Some, in_default}

pub loop-index-init : goal.loop-index-init
loop-index-init c = record {
  named = subst (λ z. IsCrowd (ids_with (last_of c.args.last) (history_of c.args.history.now)) (bit c.new.result.0) (λ x. Moved Names z x))
      (sym (so_far-none (mark c.args.of.now) (history_of c.args.history.now)))
      (crowd-start (ids_with (last_of c.args.last) (history_of c.args.history.now)) (bit c.new.result.0) Names c.new.ensures);
  removed = subst (λ z. IsCrowd (ids_with (last_of c.args.last) (history_of c.args.history.now)) (bit c.new-2.result.0) (λ x. Moved Removes z x))
      (sym (so_far-none (mark c.args.of.now) (history_of c.args.history.now)))
      (crowd-start (ids_with (last_of c.args.last) (history_of c.args.history.now)) (bit c.new-2.result.0) Removes c.new-2.ensures);
}

pub loop-index-preserved : goal.loop-index-preserved
loop-index-preserved c =
    let h = history_of c.args.history.now in
    let ids = ids_with (last_of c.args.last) (history_of c.args.history.now) in
    let t = message-at (history_of c.args.history.now) c.loop-index.index (let e = c.count-index-end.ensures.count in let f = rows-length c.args.history.now in omega arith) in
    elim c.if-has.branch [
      | then-has w ↦ let k = w.with_row-moves.ensures t.by t.is_row in record {
        named = rw w.moves-is (crowd-marked h ids (mark c.args.of.now) (bit c.loop-index.moves.named.0) (bit w.with_row-moves.result.named.0)
            c.loop-index.index t.by Names t.is_row (sym w.if-has.ensures) c.loop-index.invariant.named k.named);
        removed = rw w.moves-is (crowd-marked h ids (mark c.args.of.now) (bit c.loop-index.moves.removed.0) (bit w.with_row-moves.result.removed.0)
            c.loop-index.index t.by Removes t.is_row (sym w.if-has.ensures) c.loop-index.invariant.removed k.removed);
      }
      | else-has w ↦ record {
        named = rw w.moves-is (crowd-skipped h ids (mark c.args.of.now) (bit c.loop-index.moves.named.0)
            c.loop-index.index t.by Names t.is_row (sym w.if-has.ensures) c.loop-index.invariant.named);
        removed = rw w.moves-is (crowd-skipped h ids (mark c.args.of.now) (bit c.loop-index.moves.removed.0)
            c.loop-index.index t.by Removes t.is_row (sym w.if-has.ensures) c.loop-index.invariant.removed);
      }
    ]

pub returns : goal.returns
returns c =
    let h = history_of c.args.history.now in
    let ids = ids_with (last_of c.args.last) (history_of c.args.history.now) in
    let p = marked (mark c.args.of.now) (history_of c.args.history.now) in
    let e = so_far-all (mark c.args.of.now) (history_of c.args.history.now) c.loop-index.index (let e = c.count-index-end.ensures.count in let f = rows-length c.args.history.now in omega arith) in
    let n : IsCrowd ids (bit c.loop-index.moves.named.0) (λ x. Moved Names p x) =
    subst (λ z. IsCrowd ids (bit c.loop-index.moves.named.0) (λ x. Moved Names z x)) e c.loop-index.invariant.named in
    let r : IsCrowd ids (bit c.loop-index.moves.removed.0) (λ x. Moved Removes p x) =
    subst (λ z. IsCrowd ids (bit c.loop-index.moves.removed.0) (λ x. Moved Removes z x)) e c.loop-index.invariant.removed in
    crowd-members ids (with_last (last_of c.args.last) p) (bit c.match-last.moves.named.0) (bit c.match-last.moves.removed.0) (bit c.without.result.0)
    (elim c.match-last.branch [
      | in-Some w ↦ rw w.moves-is (subst (λ z. IsCrowd ids (bit w.with_act-moves.result.named.0) (λ x. Moved Names (with_last (last_of z) p) x))
          (sym w.in-Some.is) (crowd-more ids (bit c.loop-index.moves.named.0) (bit w.with_act-moves.result.named.0) p
          (message_of w.in-Some.header.now) Names n (rw w.act_of.ensures at w.with_act-moves.ensures.named)))
      | in_default w ↦ rw w.moves-is (subst (λ z. IsCrowd ids (bit c.loop-index.moves.named.0) (λ x. Moved Names (with_last (last_of z) p) x))
          (sym w.in_default.is) n)
    ])
    (elim c.match-last.branch [
      | in-Some w ↦ rw w.moves-is (subst (λ z. IsCrowd ids (bit w.with_act-moves.result.removed.0) (λ x. Moved Removes (with_last (last_of z) p) x))
          (sym w.in-Some.is) (crowd-more ids (bit c.loop-index.moves.removed.0) (bit w.with_act-moves.result.removed.0) p
          (message_of w.in-Some.header.now) Removes r (rw w.act_of.ensures at w.with_act-moves.ensures.removed)))
      | in_default w ↦ rw w.moves-is (subst (λ z. IsCrowd ids (bit c.loop-index.moves.removed.0) (λ x. Moved Removes (with_last (last_of z) p) x))
          (sym w.in_default.is) r)
    ])
    c.without.ensures
