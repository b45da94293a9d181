use Rattle.std.proofs.Common.{sym, ◌∙◌, arith}
use Rattle.ntru_model.proofs.Counts.{large_secret}
use Rattle.ntru_prime.proofs.SetFacts.{large_set}
use Rattle.ntru_prime.proofs.sets.Sntrup761Kem.pair_from_secret.Goals as goal

pub from_secret-requires : goal.from_secret-requires
from_secret-requires c = (omega arith, (large_set, c.requires ∙ sym large_secret))
