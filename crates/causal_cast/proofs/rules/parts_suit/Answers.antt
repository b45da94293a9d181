use Rattle.std.proofs.Common.{◌≡◌, true, false, ◌∷◌, subst}
use Rattle.group_fields.specs.declared.header.Header.{Header}
use Rattle.group_model.specs.Membership.{IsAddressee, ids_named}
use Rattle.group_model.specs.Marks.{IsCrowd}
use Rattle.group_messages.proofs.HeaderFacts.{ascends-ascending}
use Rattle.group_messages.specs.Messages.{message_of}
use Rattle.std.specs.Prelude.{None}
use Rattle.causal_history.specs.Bits.{bit}
use Rattle.causal_history.specs.Rows.{history_of}
use Rattle.wire_codec.specs.Order.{recipients}
use Rattle.causal_cast.specs.Judging.{receivers as ids_of_parts}
use Rattle.causal_cast.proofs.Suiting.{new-history, suits-by_crowds, suits-not}
use Rattle.causal_cast.proofs.rules.parts_suit.Goals as goal

-- a part is for somebody without a place
pub returns-in-None : goal.returns-in-None
returns-in-None g c =
    let packet = c.args.packet.now in
    let h = history_of c.args.history.now in
    let m = message_of packet.header in
    let order = c.packets_are_in_order.ensures.order packet _ c.bytes-bytes.ensures in
    let there = new-history h m c.count-kept.ensures.kept.history c.requires.stand c.requires.new in
    let unplaced = c.in-None.ensures in (
      λ e. absurd (let f : false ≡ true = e in cc),
      λ s. absurd (suits-not g.G.Membership.rule g.G.Membership.is_rule h m there (ids_of_parts packet.parts)
          (ascends-ascending None (recipients packet.parts) order.body.parts) unplaced.0 unplaced.1 unplaced.2 s),
    )

pub returns-in-Some : goal.returns-in-Some
returns-in-Some g c =
    let packet = c.args.packet.now in
    let h = history_of c.args.history.now in
    let m = message_of packet.header in
    let order = c.packets_are_in_order.ensures.order packet _ c.bytes-bytes.ensures in
    let there = new-history h m c.count-kept.ensures.kept.history c.requires.stand c.requires.new in
    let bits = bit c.addressees.result.0 in
    let addressees = subst (λ (z : Header). IsCrowd (ids_named (message_of z ∷ h)) bits
    (λ y. IsAddressee g.G.Membership.rule h (message_of z) (message_of z).kind y)) c.header-header.ensures
    c.addressees.ensures in
    suits-by_crowds g.G.Membership.rule g.G.Membership.is_rule h m there (ids_of_parts packet.parts)
    (ascends-ascending None (recipients packet.parts) order.body.parts) (bit c.in-Some.crowd.0) bits c.same.result
    c.in-Some.ensures.0 c.in-Some.ensures.1 addressees c.same.ensures
