use Rattle.std.proofs.Common.{ap, sym, ◌∙◌}
use Rattle.group_packets.specs.Packets.{packet_of}
use Rattle.group_packets.proofs.laws.packets_are_of_one.Goals as goal

pub returns : goal.returns
returns g c = λ bytes a b x y.
    sym x.is ∙ ap (packet_of g.K.Kem) (c.packets_are_spelled_once.ensures.one_packet bytes x.written y.written x.spelled y.spelled) ∙ y.is
