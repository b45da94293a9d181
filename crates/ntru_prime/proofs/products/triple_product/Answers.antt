use Rattle.std.proofs.Common.{◌∙◌, ap}
use Rattle.ntru_model.specs.Residues.{product_mod}
use Rattle.ntru_prime.proofs.Sums.{triple_centred, product_by}
use Rattle.ntru_prime.proofs.products.triple_product.Goals as goal

pub mul_q-requires-clause-a_centred : goal.mul_q-requires-clause-a_centred
mul_q-requires-clause-a_centred g c = triple_centred c.requires.set c.args.f.now c.triple.new.into c.triple.ensures c.requires.small

pub returns : goal.returns
returns g c =
    product_by c.requires.set c.triple.new.into c.args.a.now c.mul_q.new.out c.mul_q.ensures.centred c.mul_q.ensures.congruent
    ∙ ap (λ t. product_mod g.row.P _ t c.args.a.now) c.triple.ensures
