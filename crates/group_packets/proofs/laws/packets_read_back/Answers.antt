use Rattle.std.proofs.Common.{refl}
use Rattle.group_packets.proofs.ReadBack.{written_back}
use Rattle.group_packets.proofs.laws.packets_read_back.Goals as goal

pub returns-clause-joined : goal.returns-clause-joined
returns-clause-joined g c = λ packet head carried signed of short small. record {
  written = packet;
  spelled = c.packets_are_joined.ensures.together packet head carried signed of short small;
  is = refl;
}

pub returns-clause-parts : goal.returns-clause-parts
returns-clause-parts g c = λ parts sized. written_back g.K.Kem c.parts_are_spelled.ensures.back parts sized
