use Rattle.std.proofs.Common.{◌≡◌, false, true, refl, sym, ◌∙◌, ap}
use Rattle.group_fields.specs.Cards.{card_id}
use Rattle.group_fields.specs.declared.header.Header.{Header}
use Rattle.group_fields.specs.declared.ids.MemberId.{MemberId}
use Rattle.welcome_history.proofs.CardsFor.{among-here, among-next}
use Rattle.welcome_history.proofs.creating.card_of_sender.Goals as goal

pub returns-then-is_own : goal.returns-then-is_own
returns-then-is_own c =
    let packet = c.args.packet.now in
    let card = c.card-card.result in
    let sender : c.sender-sender.result.0.0 ≡ packet.header.sender.0.0 =
    ap (λ (id : MemberId). id.0.0) (c.sender-sender.ensures ∙ ap (λ (h : Header). h.sender) c.header-header.ensures) in
    sym (among-here packet.cards c.loop-index.index card packet.header.sender.0.0 c.card-card.ensures
    (c.if-is_own.ensures.0 refl ∙ sender)) ∙ c.loop-index.invariant

pub loop-index-preserved : goal.loop-index-preserved
loop-index-preserved c =
    let packet = c.args.packet.now in
    let card = c.card-card.result in
    let sender : c.sender-sender.result.0.0 ≡ packet.header.sender.0.0 =
    ap (λ (id : MemberId). id.0.0) (c.sender-sender.ensures ∙ ap (λ (h : Header). h.sender) c.header-header.ensures) in
    let other : card_id card ≡ packet.header.sender.0.0 → ⊥ = λ e.
    let found : false ≡ true = c.if-is_own.ensures.1 (e ∙ sym sender) in absurd cc in
    sym (among-next packet.cards c.loop-index.index card packet.header.sender.0.0 c.card-card.ensures other)
    ∙ c.loop-index.invariant
