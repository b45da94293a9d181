use Rattle.std.proofs.Common.{ap, ◌∙◌}
use Rattle.wire_codec.specs.Packets.{body_of, part_size}
use Rattle.group_packets.proofs.PartBytes.{body_parts, part_at}
use Rattle.group_packets.proofs.ReadBack.{part_long}
use Rattle.group_packets.proofs.laws.parts_are_read.Goals as goal

pub returns : goal.returns
returns g c = λ packet bytes index one is set at.
    let of = (c.packets_are_joined.ensures.apart packet bytes is) in
    let part = part_at packet.header.set index packet.parts one
    (body_parts packet.header.set packet.header.kind packet.header.target of.carried (body_of packet) of.are_of.body) at in
    c.parts_are_spelled.ensures.reads one.bytes (part.long ∙ ap part_size set ∙ part_long g.K.Kem) part.origin
