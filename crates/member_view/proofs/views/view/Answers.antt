use Rattle.std.proofs.Common.{subst, sym, ◌∷◌}
use Rattle.causal_history.specs.Bits.{bit, mark}
use Rattle.causal_history.specs.Rows.{history_of}
use Rattle.group_messages.specs.Messages.{message_of, ids_of}
use Rattle.group_model.specs.Sets.{In}
use Rattle.group_model.specs.Membership.{ids_named}
use Rattle.group_model.specs.Marks.{IsCrowd}
use Rattle.group_model.proofs.Numbers.{past-marked}
use Rattle.member_view.proofs.views.view.Goals as goal

pub members-requires-clause-last : goal.members-requires-clause-last
members-requires-clause-last g c = (
  record {
    each = λ {a} i. subst (λ z. In a z)
        (sym (past-marked (history_of c.args.history.now) (ids_of c.args.header.now.predecessors) (mark c.mark_past.new.into)
        c.count-count.ensures.kept.history c.mark_past.ensures)) i;
  },
  c.requires.create,
)

pub returns : goal.returns
returns g c = subst (λ z. IsCrowd (ids_named (message_of c.args.header.now ∷ history_of c.args.history.now)) (bit c.members.result.0)
    (λ x. In x (g.G.Membership.rule (message_of c.args.header.now ∷ z))))
    (past-marked (history_of c.args.history.now) (ids_of c.args.header.now.predecessors) (mark c.mark_past.new.into)
    c.count-count.ensures.kept.history c.mark_past.ensures) c.members.ensures
