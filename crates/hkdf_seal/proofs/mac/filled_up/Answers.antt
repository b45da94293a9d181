use Rattle.std.proofs.Common.{ap, ◌-◌, ◌∙◌, ◌++◌, ◌+◌, length, replicate, zero-add}
use Rattle.std.proofs.lemmas.List.{drop-replicate}
use Rattle.hkdf_seal.proofs.mac.filled_up.Goals as goal

pub returns : goal.returns
returns c =
    c.put.ensures ∙ ap (λ r. c.args.key.now ++ r)
    (drop-replicate (0 + length c.args.key.now) 64 0 ∙ ap (λ n. replicate n 0) (ap (λ n. 64 - n) (zero-add (length c.args.key.now))))
