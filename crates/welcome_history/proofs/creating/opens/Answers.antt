use Rattle.std.proofs.Common.{◌≡◌, List, false, true, sym, ◌∙◌, subst}
use Rattle.group_fields.specs.declared.header.Header.{Header}
use Rattle.group_model.specs.Sets.{Id}
use Rattle.group_model.specs.Messages.{Create}
use Rattle.group_model.specs.Validity.{Opens}
use Rattle.group_messages.specs.Messages.{message_of}
use Rattle.member_view.specs.Rules.{any_inviter}
use Rattle.welcome_history.proofs.CreateCards.{opens-any, opens-by, opens-lets}
use Rattle.welcome_history.proofs.creating.opens.Goals as goal

pub may_open-requires-clause-create : goal.may_open-requires-clause-create
may_open-requires-clause-create g c =
    subst (λ (h : Header). (members : List Id) × ((message_of h).kind ≡ Create members)) (sym c.header-header.ensures)
    c.requires.create

pub returns-then-may_open : goal.returns-then-may_open
returns-then-may_open g c =
    let packet = c.args.packet.now in
    let is_public = g.K.Kem.is_public in
    let spelled = (c.packets_are_in_order.ensures.order packet _ c.bytes-bytes.ensures).header in
    let suits = c.packets_are_in_order.ensures.suits packet _ c.bytes-bytes.ensures in
    let distinct = c.named_ids_are_few.ensures.distinct packet.header spelled in
    let opened = subst (λ (h : Header). Opens (any_inviter (message_of h)) (message_of h)) c.header-header.ensures
    (c.may_open.ensures.0 c.if-may_open.true) in (
      λ t. opens-by is_public packet spelled suits distinct opened (c.all_invited.ensures.0 t),
      λ o. c.all_invited.ensures.1 (opens-lets is_public packet spelled suits distinct o),
    )

pub returns-else-may_open : goal.returns-else-may_open
returns-else-may_open g c =
    let packet = c.args.packet.now in
    let spelled = (c.packets_are_in_order.ensures.order packet _ c.bytes-bytes.ensures).header in
    let suits = c.packets_are_in_order.ensures.suits packet _ c.bytes-bytes.ensures in
    let distinct = c.named_ids_are_few.ensures.distinct packet.header spelled in (
      λ t. absurd (let found : false ≡ true = sym c.if-may_open.false ∙ t in cc),
      λ o. c.may_open.ensures.1 (subst (λ (h : Header). Opens (any_inviter (message_of h)) (message_of h))
          (sym c.header-header.ensures) (opens-any g.K.Kem.is_public packet spelled suits distinct o)),
    )
