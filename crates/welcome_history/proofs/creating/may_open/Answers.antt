use Rattle.std.proofs.Common.{◌≡◌, true, false, [], refl, sym, subst}
use Rattle.group_model.specs.Validity.{MayFollow}
use Rattle.group_messages.specs.Messages.{message_of}
use Rattle.causal_history.specs.Rows.{history_of}
use Rattle.member_view.specs.Causes.{GivesNone}
use Rattle.member_view.specs.Rules.{any_inviter, rule_causes}
use Rattle.member_view.proofs.FaultLaws.{create-taken}
use Rattle.welcome_history.proofs.CreateCards.{history-none}
use Rattle.welcome_history.proofs.creating.may_open.Goals as goal

pub returns-in-Some : goal.returns-in-Some
returns-in-Some g c =
    let m = message_of c.args.header.now in
    let rule = g.G.Membership.rule in
    let empty : history_of c.args.history.now ≡ [] = history-none c.args.history.now c.requires.empty in (
      λ (t : false ≡ true). absurd cc,
      λ o. absurd (let none = c.rules.ensures.none.1 (subst (λ h. GivesNone (rule_causes rule h m)) (sym empty)
          (create-taken rule m c.requires.create.0 (sym c.requires.create.1) o)) in
          let some = c.in-Some.is in cc),
    )

pub returns-in-None : goal.returns-in-None
returns-in-None g c =
    let m = message_of c.args.header.now in
    let empty : history_of c.args.history.now ≡ [] = history-none c.args.history.now c.requires.empty in (
      λ t. subst (λ h. MayFollow g.G.Membership.rule (any_inviter m) h m) empty
          (c.rules.ensures.goes_on c.in-None.is),
      λ o. refl,
    )
