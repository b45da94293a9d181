use Rattle.std.proofs.Common.{◌≡◌, Bool, true, false, ◌∷◌, sym, ◌∙◌, subst}
use Rattle.group_model.specs.Membership.{IsSeeded}
use Rattle.group_messages.specs.Messages.{message_of}
use Rattle.causal_history.specs.Bits.{bit}
use Rattle.causal_history.specs.Rows.{history_of}
use Rattle.member_answers.specs.Plans.{IsAnswerCrowd}
use Rattle.member_answers.proofs.AnswerCrowds.{crowd-forwarded, crowd-nobody}
use Rattle.member_answers.proofs.crowds.due_to_seeded.Goals as goal

pub returns-then-took : goal.returns-then-took
returns-then-took g c = λ me.
    let h = history_of c.args.history.now in
    let o = message_of c.args.operation.now in
    subst (λ (took : Bool). IsAnswerCrowd g.G.Membership.rule (o ∷ h) c.args.place me o took (bit c.left_out.result.0))
    (sym c.if-took.true)
    (crowd-forwarded g.G.Membership.rule g.G.Membership.is_rule h o c.requires.history c.args.place me
    (bit c.left_out.result.0) c.requires.seeded c.left_out.ensures)

pub returns-else-took : goal.returns-else-took
returns-else-took g c = λ me.
    crowd-nobody g.G.Membership.rule g.G.Membership.is_rule (history_of c.args.history.now)
    (message_of c.args.operation.now) c.requires.history c.args.place me c.args.took (bit c.new.result.0) c.new.ensures
    (λ y adds. absurd (subst IsSeeded adds c.requires.seeded))
    (λ e s. let no : false ≡ true = sym c.if-took.false ∙ e in absurd cc)
