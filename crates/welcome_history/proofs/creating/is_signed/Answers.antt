use Rattle.std.proofs.Common.{◌≡◌, ◌↔◌, ℕ, List, false, true, sym, ◌∙◌, subst}
use Rattle.group_fields.specs.declared.header.Header.{Header}
use Rattle.group_messages.specs.Messages.{message_of}
use Rattle.causal_history.specs.Rows.{Row}
use Rattle.causal_cast.specs.Judging.{IsSignedUnder}
use Rattle.welcome_history.proofs.CreateCards.{not-signed, signed-by, signed-under}
use Rattle.welcome_history.proofs.creating.is_signed.Goals as goal

pub returns-in-Some : goal.returns-in-Some
returns-in-Some c =
    let packet = c.args.packet.now in
    let row : Row = record { header = packet.header; cards = packet.cards } in
    let m = message_of packet.header in
    let card = c.in-Some.card in
    let found = sym c.card_of_sender.ensures ∙ c.in-Some.is in
    let of_message = subst (λ (h : Header). (c.is_signed_under.result ≡ true)
    ↔ IsSignedUnder card (message_of h) c.signature.result.now) c.header-header.ensures c.is_signed_under.ensures in
    let says = subst (λ (z : List ℕ). (c.is_signed_under.result ≡ true) ↔ IsSignedUnder card m z) c.signature.ensures
    of_message in (
      λ t. signed-by row m packet.signature card found (says.0 t),
      λ s. says.1 (signed-under row m packet.signature card found s),
    )

pub returns-in-None : goal.returns-in-None
returns-in-None c =
    let packet = c.args.packet.now in
    let row : Row = record { header = packet.header; cards = packet.cards } in (
      λ (t : false ≡ true). absurd cc,
      λ s. absurd (not-signed row (message_of packet.header) packet.signature
          (sym c.card_of_sender.ensures ∙ c.in-None.is) s),
    )
