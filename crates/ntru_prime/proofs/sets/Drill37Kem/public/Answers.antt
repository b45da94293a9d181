use Rattle.std.proofs.Common.{sym, ◌∙◌, arith}
use Rattle.ntru_model.proofs.Counts.{little_public}
use Rattle.ntru_prime.proofs.SetFacts.{little_set}
use Rattle.ntru_prime.proofs.sets.Drill37Kem.public.Goals as goal

pub copy_public-requires : goal.copy_public-requires
copy_public-requires c = (omega arith, (little_set, c.requires ∙ sym little_public))
