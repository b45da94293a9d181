use Rattle.std.proofs.Common.{ap, sym}
use Rattle.std.specs.Prelude.{Some, None}
use Rattle.wire_codec.specs.Views.{body_seen, packet_of, sealed_of}
use Rattle.wire_codec.proofs.Seen.{is_text, no_text}
use Rattle.wire_codec.proofs.packet.PacketView.text.Goals as goal

pub returns-in-Text-clause-is_text : goal.returns-in-Text-clause-is_text
returns-in-Text-clause-is_text c =
    is_text (packet_of c.self.inside.fields) c.args.self.now c.self.inside.bytes.now c.self.view_is c.self.invariant (Some (sealed_of c.in-Text.view))
    (ap (λ b. (body_seen b).text) (sym c.in-Text.is))

pub returns-in-Create-clause-is_text : goal.returns-in-Create-clause-is_text
returns-in-Create-clause-is_text c =
    is_text (packet_of c.self.inside.fields) c.args.self.now c.self.inside.bytes.now c.self.view_is c.self.invariant None
    (no_text c.self.inside.fields.body c.in-Create.is)
