use Rattle.std.proofs.Common.{ap, ◌∙◌, take, ◌++◌}
use Rattle.sha2.specs.Sha512.{sha512}
use Rattle.ntru_model.specs.Pairs.{hash}
use Rattle.ntru_prime.proofs.hashes.hash_both.Goals as goal

pub returns : goal.returns
unfolding hash
returns c =
    c.first_half.ensures ∙ ap (take 32) (c.finalize.ensures _ (c.update-3.ensures _ (c.update-2.ensures _ (c.update.ensures _ c.new-hasher.ensures))))
    ∙ ap (λ b. take 32 (sha512 ((b ++ c.args.first.now) ++ c.args.second.now))) c.as_slice.ensures
