use Rattle.std.proofs.Common.{sym, subst}
use Rattle.group_fields.specs.Layouts.{Spells}
use Rattle.wire_codec.specs.Packets.{part}
use Rattle.group_model.specs.Sets.{Bytes}
use Rattle.body_parts.proofs.Sent.{one_made}
use Rattle.body_parts.proofs.laws.parts_are_the_models.Goals as goal

pub returns-clause-spelled : goal.returns-clause-spelled
returns-clause-spelled g c = λ r payload drawn before after bytes m.
    subst (λ (b : Bytes). Spells (part g.K.Kem.SET) b b) (sym m.are) (c.parts_are_written.ensures m.part m.sized)

pub returns-clause-made : goal.returns-clause-made
returns-clause-made g c = one_made g.K.Kem c.calls_stand.ensures c.places_serve.ensures.calls c.a_book_serves_places.ensures
    c.a_state_serves_a_pairing.ensures.next c.parts_are_spelled.ensures.back
