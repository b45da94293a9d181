use Rattle.group_packets.proofs.ReadBack.{part_spelled}
use Rattle.group_packets.proofs.laws.parts_are_written.Goals as goal

pub returns : goal.returns
returns g c = λ one sized. part_spelled g.K.Kem one sized
