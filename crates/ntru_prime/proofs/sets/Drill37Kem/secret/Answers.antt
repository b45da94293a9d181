use Rattle.std.proofs.Common.{sym, ap, ◌∙◌, length}
use Rattle.ntru_prime.proofs.PairFacts.{pair_len}
use Rattle.ntru_model.proofs.Counts.{little_secret}
use Rattle.ntru_prime.proofs.SetFacts.{little_set}
use Rattle.ntru_prime.proofs.sets.Drill37Kem.secret.Goals as goal

pub copy_from_slice-requires : goal.copy_from_slice-requires
copy_from_slice-requires c =
    let pair = c.args.pair.now in
    c.requires ∙ sym (ap length c.as_slice.ensures.value ∙ pair_len little_set pair.f pair.g_inverse pair.h pair.secret.items pair.tested ∙ little_secret)
