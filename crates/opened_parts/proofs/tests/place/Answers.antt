use Rattle.std.proofs.Common.{◌∷◌, subst}
use Rattle.group_fields.specs.declared.ids.MemberId.{MemberId}
use Rattle.group_messages.specs.Messages.{message_of}
use Rattle.group_model.specs.Sets.{In}
use Rattle.group_model.specs.Membership.{ids_named}
use Rattle.group_model.proofs.Places.{place-in}
use Rattle.causal_history.specs.Rows.{history_of}
use Rattle.opened_parts.proofs.tests.place.Goals as goal

-- who has a place is named
pub sender_place-requires : goal.sender_place-requires
sender_place-requires c =
    let ids = ids_named (message_of c.args.header.now ∷ history_of c.args.history.now) in
    subst (λ (id : MemberId). In id.0.0 ids) c.sender.ensures
    (place-in ids _ c.sender.result.0.0 c.in-Some.ensures.place)
