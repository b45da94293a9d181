use Rattle.std.proofs.Common.{◌∙◌, ap, sym}
use Rattle.std.specs.Prelude.{Some, None}
use Rattle.wire_codec.specs.Views.{body_seen, packet_of}
use Rattle.wire_codec.proofs.Seen.{is_add, no_history}
use Rattle.wire_codec.proofs.packet.PacketView.history.Goals as goal

pub returns-in-Add-clause-add : goal.returns-in-Add-clause-add
returns-in-Add-clause-add c =
    is_add (packet_of c.self.inside.fields) c.args.self.now c.self.inside.bytes.now c.self.view_is c.self.invariant (Some c.again.result)
    (ap (λ h. Some h) c.again.ensures ∙ ap (λ b. (body_seen b).history) (sym c.in-Add.is))

pub returns-in-Create-clause-add : goal.returns-in-Create-clause-add
returns-in-Create-clause-add c =
    is_add (packet_of c.self.inside.fields) c.args.self.now c.self.inside.bytes.now c.self.view_is c.self.invariant None
    (no_history c.self.inside.fields.body c.in-Create.is)
