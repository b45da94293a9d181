use Rattle.std.proofs.Common.{◌≡◌, true, false, ◌∙◌, ap, subst}
use Rattle.group_fields.specs.declared.header.Header.{Header}
use Rattle.group_fields.specs.declared.ids.MemberId.{MemberId}
use Rattle.group_model.specs.Sets.{In}
use Rattle.group_model.specs.Membership.{ids_named}
use Rattle.causal_history.specs.Rows.{history_of}
use Rattle.causal_cast.proofs.CardsNamed.{card-named}
use Rattle.causal_cast.proofs.judging.is_signed.Goals as goal

-- who is not named has no card
pub returns-in-None : goal.returns-in-None
returns-in-None c =
    let rows = c.args.history.now in
    let packet = c.args.packet.now in
    let sender : c.sender.result.0.0 ≡ packet.header.sender.0.0 =
    ap (λ (id : MemberId). id.0.0) (c.sender.ensures ∙ ap (λ (h : Header). h.sender) c.header-header.ensures) in
    let unnamed = subst (λ x. In x (ids_named (history_of rows)) → ⊥) sender c.in-None.ensures.place in (
      λ e. absurd (let f : false ≡ true = e in cc),
      λ s. absurd (unnamed
          (card-named rows c.count-kept.ensures.kept.whole packet.header.sender.0.0 s.card s.is_known)),
    )
