use Rattle.std.proofs.Common.{◌≡◌, ◌↔◌, true, Some, sym, ◌∙◌, ap, subst}
use Rattle.group_fields.specs.declared.header.Header.{Header}
use Rattle.group_fields.specs.declared.header.Kind.TheVariants as kinds
use Rattle.group_fields.specs.declared.ids.MemberId.{MemberId}
use Rattle.causal_cast.specs.Judging.{inviter_in}
use Rattle.causal_cast.proofs.CardFacts.{add-invited, first-of_set}
use Rattle.causal_cast.proofs.rules.cards_suit.Goals as goal

pub is_invited-requires : goal.is_invited-requires
is_invited-requires g c =
    let order = c.packets_are_in_order.ensures.order c.args.packet.now _ c.bytes-bytes.ensures in
    first-of_set c.args.packet.now.header.set c.args.packet.now.cards c.card.result order.body.cards c.card.ensures
    ∙ c.requires

-- the one card is that of whom the add names
pub returns-in-Add : goal.returns-in-Add
returns-in-Add g c =
    let packet = c.args.packet.now in
    let order = c.packets_are_in_order.ensures.order packet _ c.bytes-bytes.ensures in
    let suits = c.packets_are_in_order.ensures.suits packet _ c.bytes-bytes.ensures in
    let header = c.header-header.ensures in
    let add : packet.header.kind ≡ kinds.Add = sym (ap (λ (h : Header). h.kind) header) ∙ sym c.in-Add.ensures in
    let sender : c.sender.result.0.0 ≡ packet.header.sender.0.0 =
    ap (λ (id : MemberId). id.0.0) (c.sender.ensures ∙ ap (λ (h : Header). h.sender) header) in
    add-invited g.K.Kem.is_public packet c.card.result packet.header.sender.0.0 c.is_invited.result order.header suits
    add
    c.card.ensures
    (subst (λ z. (c.is_invited.result ≡ true) ↔ (inviter_in g.K.Kem.is_public c.card.result ≡ Some z)) sender
    c.is_invited.ensures)
