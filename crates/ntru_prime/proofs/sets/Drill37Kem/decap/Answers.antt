use Rattle.std.proofs.Common.{sym, ◌∙◌, arith}
use Rattle.ntru_model.proofs.Counts.{little_cipher}
use Rattle.ntru_prime.proofs.SetFacts.{little_set}
use Rattle.ntru_prime.proofs.sets.Drill37Kem.decap.Goals as goal

pub decap-requires : goal.decap-requires
decap-requires c = (omega arith, (little_set, c.requires ∙ sym little_cipher))
