use Rattle.std.proofs.Common.{◌≡◌, ◌∷◌, sym, ◌∙◌, subst}
use Rattle.group_model.specs.Sets.{In}
use Rattle.group_model.specs.Membership.{ids_named}
use Rattle.group_model.proofs.RemoveWins.{ids_named-distinct}
use Rattle.group_messages.specs.Messages.{message_of}
use Rattle.causal_history.specs.Bits.{bit}
use Rattle.causal_history.specs.Rows.{history_of}
use Rattle.causal_cast.proofs.CrowdSets.{crowd-none, crowd-only}
use Rattle.member_answers.proofs.crowds.alone.Goals as goal

pub returns-in-Some : goal.returns-in-Some
returns-in-Some c =
    let h = message_of c.args.operation.now ∷ history_of c.args.history.now in
    crowd-only (ids_named h) (bit c.with.result.0) c.in-Some.place c.args.id.now.0.0 (ids_named-distinct h)
    c.in-Some.ensures.place c.with.ensures.set (λ p n. c.with.ensures.others p n ∙ c.new.ensures p)

pub returns-in-None : goal.returns-in-None
returns-in-None c =
    let ids = ids_named (message_of c.args.operation.now ∷ history_of c.args.history.now) in
    crowd-none ids (bit c.new-in-None.result.0) (λ y. c.args.id.now.0.0 ≡ y) c.new-in-None.ensures
    (λ y i e. c.in-None.ensures.place (subst (λ z. In z ids) (sym e) i))
