use Rattle.std.proofs.Common.{◌≡◌, ◌∷◌, ◌∙◌, subst}
use Rattle.group_fields.specs.declared.ids.MemberId.{MemberId}
use Rattle.group_model.specs.Membership.{ids_named}
use Rattle.group_model.specs.Marks.{IsCrowd}
use Rattle.group_messages.specs.Messages.{message_of}
use Rattle.causal_history.specs.Bits.{bit}
use Rattle.causal_history.specs.Rows.{history_of}
use Rattle.member_answers.proofs.AnswerCrowds.{forwards}
use Rattle.member_answers.proofs.crowds.left_out.Goals as goal

pub returns : goal.returns
returns g c = λ m k.
    let h = message_of c.args.operation.now ∷ history_of c.args.history.now in
    let maker = subst (λ (id : MemberId). IsCrowd (ids_named h) (bit c.alone-first.result.0) (λ y. id.0.0 ≡ y))
    c.sender-maker.ensures c.alone-first.ensures in
    forwards g.G.Membership.rule g.G.Membership.is_rule (history_of c.args.history.now) (message_of c.args.operation.now)
    c.requires.history c.args.place m k c.requires.seeded (bit c.members_with-now.result.0) (bit c.view-seen.result.0)
    (bit c.alone-first.result.0) (bit c.with-own.result.0) (bit c.without-new.result.0) (bit c.without-others.result.0)
    (bit c.without.result.0) c.members_with-now.ensures c.view-seen.ensures maker c.with-own.ensures.set
    (λ p n. c.with-own.ensures.others p n ∙ c.new.ensures p) c.without-new.ensures c.without-others.ensures
    c.without.ensures
