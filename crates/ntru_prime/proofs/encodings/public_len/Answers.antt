use Rattle.std.proofs.Common.{ap, ◌∙◌}
use Rattle.ntru_codec.specs.Mixed.{mixed_len}
use Rattle.ntru_prime.proofs.SetFacts.{public_few_by}
use Rattle.ntru_prime.proofs.encodings.public_len.Goals as goal

pub returns-clause-few : goal.returns-clause-few
returns-clause-few g c = public_few_by c.requires c.encoded_len.result (c.encoded_len.ensures.len ∙ ap (mixed_len g.row.P) c.modulus.ensures)
