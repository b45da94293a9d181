use Rattle.std.proofs.Common.{sym, ◌∙◌, arith}
use Rattle.ntru_model.proofs.Counts.{little_secret}
use Rattle.ntru_prime.proofs.SetFacts.{little_set}
use Rattle.ntru_prime.proofs.sets.Drill37Kem.pair_from_secret.Goals as goal

pub from_secret-requires : goal.from_secret-requires
from_secret-requires c = (omega arith, (little_set, c.requires ∙ sym little_secret))
