use Rattle.std.proofs.Common.{◌≡◌, false, true, inl, inr, sym, ◌∙◌, ap, subst}
use Rattle.group_fields.specs.declared.header.Header.{Header}
use Rattle.group_fields.specs.declared.ids.MemberId.{MemberId}
use Rattle.causal_history.proofs.ListMore.{get-in}
use Rattle.welcome_history.proofs.CreateCards.{Lets, next-cases, of_set-at}
use Rattle.welcome_history.proofs.creating.all_invited.Goals as goal

pub is_invited-requires : goal.is_invited-requires
is_invited-requires g c =
    let packet = c.args.packet.now in
    let order = c.packets_are_in_order.ensures.order packet _ c.bytes-bytes.ensures in
    of_set-at packet.header.set packet.cards c.loop-index.index c.card.result order.body.cards c.card.ensures
    ∙ c.requires

pub returns-then-not-is_invited : goal.returns-then-not-is_invited
returns-then-not-is_invited g c =
    let packet = c.args.packet.now in
    let sender : c.sender-sender.result.0.0 ≡ packet.header.sender.0.0 =
    ap (λ (id : MemberId). id.0.0) (c.sender-sender.ensures ∙ ap (λ (h : Header). h.sender) c.header-header.ensures)
    in (
      λ (t : false ≡ true). absurd cc,
      λ f. absurd (let yes = c.is_invited.ensures.1
          (subst (λ z. Lets g.K.Kem.is_public z c.card.result) (sym sender)
          (f c.card.result (get-in packet.cards c.loop-index.index c.card.result c.card.ensures))) in
          let no = c.if-not-is_invited.true in cc),
    )

pub loop-index-preserved : goal.loop-index-preserved
loop-index-preserved g c = λ card i.
    let packet = c.args.packet.now in
    let sender : c.sender-sender.result.0.0 ≡ packet.header.sender.0.0 =
    ap (λ (id : MemberId). id.0.0) (c.sender-sender.ensures ∙ ap (λ (h : Header). h.sender) c.header-header.ensures) in
    elim (next-cases packet.cards c.loop-index.index c.card.result c.card.ensures i) [
      | inl e ↦ subst (λ z. Lets g.K.Kem.is_public packet.header.sender.0.0 z) (sym e)
          (subst (λ z. Lets g.K.Kem.is_public z c.card.result) sender
          (c.is_invited.ensures.0 c.if-not-is_invited.false))
      | inr j ↦ c.loop-index.invariant card j
    ]
