use Rattle.std.proofs.Common.{sym, ◌∙◌, arith}
use Rattle.ntru_model.proofs.Counts.{large_public}
use Rattle.ntru_prime.proofs.SetFacts.{large_set}
use Rattle.ntru_prime.proofs.sets.Sntrup761Kem.public.Goals as goal

pub copy_public-requires : goal.copy_public-requires
copy_public-requires c = (omega arith, (large_set, c.requires ∙ sym large_public))
