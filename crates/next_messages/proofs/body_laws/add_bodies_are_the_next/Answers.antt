use Rattle.std.proofs.Common.{[], ◌∷◌, ◌++◌}
use Rattle.group_fields.specs.Cards.{card_id}
use Rattle.group_model.specs.Membership.{ids_named}
use Rattle.reference_member.specs.Members.{known}
use Rattle.next_messages.proofs.Added.{add-body}
use Rattle.next_messages.proofs.body_laws.add_bodies_are_the_next.Goals as goal

pub returns : goal.returns
returns g c = λ rule M t card O state book header is about me before after ratchet bytes stands within own known_ratchet made.
    add-body g.K.Kem rule M t card c.the_book_carries_what_is_sent.ensures.sends c.the_book_carries_what_is_sent.ensures.parts O state book
    header is about me before after ratchet bytes stands
    (c.calls_stand.ensures O (ids_named (known M) ++ card_id card ∷ []) me before state stands within) own known_ratchet made
