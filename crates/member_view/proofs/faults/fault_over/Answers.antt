use Rattle.std.proofs.Common.{◌≡◌, ◌∙◌, true, false, sym, subst}
use Rattle.causal_history.specs.Bits.{mark}
use Rattle.causal_history.specs.Rows.{history_of}
use Rattle.group_messages.specs.Messages.{message_of, ids_of}
use Rattle.group_model.specs.Messages.{IsHistory}
use Rattle.group_model.specs.Marks.{marked}
use Rattle.group_model.proofs.Numbers.{past-marked}
use Rattle.group_model.proofs.Pasts.{past-history}
use Rattle.member_view.specs.Causes.{IsFirst, GivesNone}
use Rattle.member_view.specs.Rules.{causes_over}
use Rattle.member_view.specs.declared.faults.RuleFault.TheVariants as faults
use Rattle.member_view.proofs.FaultLaws.{first-stranger, first-not_member, first-forked, first-bad_order, first-bad_kind, no-fault}
use Rattle.member_view.proofs.faults.fault_over.Goals as goal

pub is_in_order-requires-clause-history : goal.is_in_order-requires-clause-history
is_in_order-requires-clause-history g c = subst IsHistory
    (sym (past-marked (history_of c.args.history.now) (ids_of c.args.header.now.predecessors) (mark c.mark_past.new.into)
    c.count-count.ensures.kept.history c.mark_past.ensures))
    (past-history (history_of c.args.history.now) c.count-count.ensures.kept.history (ids_of c.args.header.now.predecessors))

pub meets_kind-requires-clause-past : goal.meets_kind-requires-clause-past
meets_kind-requires-clause-past g c = record {
  ids = ids_of c.args.header.now.predecessors;
  is = past-marked (history_of c.args.history.now) (ids_of c.args.header.now.predecessors) (mark c.mark_past.new.into)
      c.count-count.ensures.kept.history c.mark_past.ensures;
}

pub returns-then-not-is_named : goal.returns-then-not-is_named
returns-then-not-is_named g c =
    let own : c.author_of-author.result.id ≡ c.args.header.now.sender = c.author_of-author.ensures.id ∙ c.sender.ensures in
    let named = rw own at c.is_named.ensures in
    subst (λ z. IsFirst (causes_over g.G.Membership.rule (history_of c.args.history.now) z (message_of c.args.header.now)) faults.Stranger)
    (past-marked (history_of c.args.history.now) (ids_of c.args.header.now.predecessors) (mark c.mark_past.new.into)
    c.count-count.ensures.kept.history c.mark_past.ensures)
    (first-stranger g.G.Membership.rule (history_of c.args.history.now) (marked (mark c.mark_past.new.into) (history_of c.args.history.now))
    (message_of c.args.header.now)
    (λ k. let y = named.1 k in let n = c.if-not-is_named.true in cc))

pub returns-then-not-is_member : goal.returns-then-not-is_member
returns-then-not-is_member g c =
    let own : c.author_of-author.result.id ≡ c.args.header.now.sender = c.author_of-author.ensures.id ∙ c.sender.ensures in
    let named = rw own at c.is_named.ensures in
    let member = rw own at c.is_member.ensures in
    subst (λ z. IsFirst (causes_over g.G.Membership.rule (history_of c.args.history.now) z (message_of c.args.header.now)) faults.NotMember)
    (past-marked (history_of c.args.history.now) (ids_of c.args.header.now.predecessors) (mark c.mark_past.new.into)
    c.count-count.ensures.kept.history c.mark_past.ensures)
    (first-not_member g.G.Membership.rule (history_of c.args.history.now) (marked (mark c.mark_past.new.into) (history_of c.args.history.now))
    (message_of c.args.header.now)
    (named.0 c.if-not-is_named.false) (λ k. let y = member.1 k in let n = c.if-not-is_member.true in cc))

pub returns-in-Some : goal.returns-in-Some
returns-in-Some g c =
    let own : c.author_of-author.result.id ≡ c.args.header.now.sender = c.author_of-author.ensures.id ∙ c.sender.ensures in
    let named = rw own at c.is_named.ensures in
    let member = rw own at c.is_member.ensures in
    subst (λ z. IsFirst (causes_over g.G.Membership.rule (history_of c.args.history.now) z (message_of c.args.header.now)) (faults.Forked c.in-Some.id))
    (past-marked (history_of c.args.history.now) (ids_of c.args.header.now.predecessors) (mark c.mark_past.new.into)
    c.count-count.ensures.kept.history c.mark_past.ensures)
    (first-forked g.G.Membership.rule (history_of c.args.history.now) (marked (mark c.mark_past.new.into) (history_of c.args.history.now))
    (message_of c.args.header.now)
    (named.0 c.if-not-is_named.false) (member.0 c.if-not-is_member.false) c.in-Some.id c.in-Some.ensures)

pub returns-then-not-is_in_order : goal.returns-then-not-is_in_order
returns-then-not-is_in_order g c =
    let own : c.author_of-author.result.id ≡ c.args.header.now.sender = c.author_of-author.ensures.id ∙ c.sender.ensures in
    let named = rw own at c.is_named.ensures in
    let member = rw own at c.is_member.ensures in
    subst (λ z. IsFirst (causes_over g.G.Membership.rule (history_of c.args.history.now) z (message_of c.args.header.now)) faults.BadOrder)
    (past-marked (history_of c.args.history.now) (ids_of c.args.header.now.predecessors) (mark c.mark_past.new.into)
    c.count-count.ensures.kept.history c.mark_past.ensures)
    (first-bad_order g.G.Membership.rule (history_of c.args.history.now) (marked (mark c.mark_past.new.into) (history_of c.args.history.now))
    (message_of c.args.header.now)
    (named.0 c.if-not-is_named.false) (member.0 c.if-not-is_member.false) c.in_default.ensures (λ k. let y = c.is_in_order.ensures.1 k in let n = c.if-not-is_in_order.true in cc))

pub returns-then-not-meets_kind : goal.returns-then-not-meets_kind
returns-then-not-meets_kind g c =
    let own : c.author_of-author.result.id ≡ c.args.header.now.sender = c.author_of-author.ensures.id ∙ c.sender.ensures in
    let named = rw own at c.is_named.ensures in
    let member = rw own at c.is_member.ensures in
    subst (λ z. IsFirst (causes_over g.G.Membership.rule (history_of c.args.history.now) z (message_of c.args.header.now)) faults.BadKind)
    (past-marked (history_of c.args.history.now) (ids_of c.args.header.now.predecessors) (mark c.mark_past.new.into)
    c.count-count.ensures.kept.history c.mark_past.ensures)
    (first-bad_kind g.G.Membership.rule (history_of c.args.history.now) (marked (mark c.mark_past.new.into) (history_of c.args.history.now))
    (message_of c.args.header.now)
    (named.0 c.if-not-is_named.false) (member.0 c.if-not-is_member.false) c.in_default.ensures (c.is_in_order.ensures.0 c.if-not-is_in_order.false)
    (λ k. let y = c.meets_kind.ensures.1 k in let n = c.if-not-meets_kind.true in cc))

pub returns : goal.returns
returns g c =
    let own : c.author_of-author.result.id ≡ c.args.header.now.sender = c.author_of-author.ensures.id ∙ c.sender.ensures in
    let named = rw own at c.is_named.ensures in
    let member = rw own at c.is_member.ensures in
    subst (λ z. GivesNone (causes_over g.G.Membership.rule (history_of c.args.history.now) z (message_of c.args.header.now)))
    (past-marked (history_of c.args.history.now) (ids_of c.args.header.now.predecessors) (mark c.mark_past.new.into)
    c.count-count.ensures.kept.history c.mark_past.ensures)
    (no-fault g.G.Membership.rule (history_of c.args.history.now) (marked (mark c.mark_past.new.into) (history_of c.args.history.now))
    (message_of c.args.header.now)
    (named.0 c.if-not-is_named.false) (member.0 c.if-not-is_member.false) c.in_default.ensures (c.is_in_order.ensures.0 c.if-not-is_in_order.false)
    (c.meets_kind.ensures.0 c.if-not-meets_kind.false))
