use Rattle.reference_member.proofs.Lawful.{run-sound}
use Rattle.reference_member.proofs.laws.logs_are_lawful.Goals as goal

pub returns : goal.returns
returns g c = record {
  lawful = λ rule steps M made O run is. ((run-sound g.K.Kem rule steps M made run).conducts O is).lawful;
  at_once = λ rule steps M made O run is. ((run-sound g.K.Kem rule steps M made run).conducts O is).at_once;
  settled = λ rule steps M made O run is. ((run-sound g.K.Kem rule steps M made run).conducts O is).settled;
}
