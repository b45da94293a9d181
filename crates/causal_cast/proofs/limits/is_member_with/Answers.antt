use Rattle.std.proofs.Common.{◌≡◌, ◌<◌, true, false, ◌∷◌, sym, ◌∙◌, subst}
use Rattle.group_model.specs.Sets.{In}
use Rattle.group_model.proofs.Pasts.{past-within}
use Rattle.group_model.proofs.RemoveWins.{Named-ids_named}
use Rattle.group_messages.specs.Messages.{message_of}
use Rattle.causal_history.specs.Rows.{history_of}
use Rattle.causal_cast.proofs.Histories.{history-length}
use Rattle.causal_cast.proofs.limits.is_member_with.Goals as goal

-- the marked numbers are those of rows
pub members-members-requires-clause-rows : goal.members-members-requires-clause-rows
members-members-requires-clause-rows g c = λ i e.
    subst (λ n. i < n) (sym (history-length c.args.history.now)) ((c.mark_all.ensures.each i).0 e)

-- all rows are marked, so the past is
pub members-members-requires-clause-last : goal.members-members-requires-clause-last
members-members-requires-clause-last g c = (
  record {
    each = λ {a} i. subst (λ h. In a h) (sym c.mark_all.ensures.marked)
        (past-within (history_of c.args.history.now) (message_of c.args.header.now).predecessors i);
  },
  c.requires,
)

-- the marked rows are the history
pub returns-in-Some : goal.returns-in-Some
returns-in-Some g c =
    let m = message_of c.args.header.now in
    let x = c.args.me.now.0.0 in
    let marked_are = c.mark_all.ensures.marked in
    let each = c.members-members.ensures.each c.in-Some.place x c.in-Some.ensures.place in (
      λ t. subst (λ h. In x (g.G.Membership.rule (m ∷ h))) marked_are (each.0 (sym c.has.ensures ∙ t)),
      λ i. c.has.ensures ∙ each.1 (subst (λ h. In x (g.G.Membership.rule (m ∷ h))) (sym marked_are) i),
    )

-- who has no place is not named, and so no member
pub returns-in-None : goal.returns-in-None
returns-in-None g c =
    let h = message_of c.args.header.now ∷ history_of c.args.history.now in (
      λ t. absurd (let e : false ≡ true = t in cc),
      λ i. absurd (c.in-None.ensures.place
          (Named-ids_named h c.args.me.now.0.0 (g.G.Membership.is_rule.named h c.args.me.now.0.0 i))),
    )
