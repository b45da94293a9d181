use Rattle.std.proofs.Common.{sym, ap, ◌∙◌, length}
use Rattle.ntru_prime.proofs.PairFacts.{pair_len}
use Rattle.ntru_model.proofs.Counts.{large_secret}
use Rattle.ntru_prime.proofs.SetFacts.{large_set}
use Rattle.ntru_prime.proofs.sets.Sntrup761Kem.secret.Goals as goal

pub copy_from_slice-requires : goal.copy_from_slice-requires
copy_from_slice-requires c =
    let pair = c.args.pair.now in
    c.requires ∙ sym (ap length c.as_slice.ensures.value ∙ pair_len large_set pair.f pair.g_inverse pair.h pair.secret.items pair.tested ∙ large_secret)
