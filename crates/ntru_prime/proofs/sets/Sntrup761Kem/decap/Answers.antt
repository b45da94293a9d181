use Rattle.std.proofs.Common.{sym, ◌∙◌, arith}
use Rattle.ntru_model.proofs.Counts.{large_cipher}
use Rattle.ntru_prime.proofs.SetFacts.{large_set}
use Rattle.ntru_prime.proofs.sets.Sntrup761Kem.decap.Goals as goal

pub decap-requires : goal.decap-requires
decap-requires c = (omega arith, (large_set, c.requires ∙ sym large_cipher))
