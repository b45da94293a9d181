use Rattle.std.proofs.Common.{refl, ap, ◌∙◌, length, pos, arith}
use Rattle.std.proofs.lemmas.List.Elements.{All-same}
use Rattle.ring_poly.specs.Ring.{IsCentred}
use Rattle.ntru_model.proofs.Residues.{all_centred}
use Rattle.ntru_prime.proofs.Sums.{product_3_by}
use Rattle.ntru_prime.proofs.PairFacts.{pair_tested, f_small, g_centred, r_by, r_small}
use Rattle.ntru_prime.proofs.encapsulation.find_r.Goals as goal

pub triple_product-requires-clause-f_len : goal.triple_product-requires-clause-f_len
triple_product-requires-clause-f_len g c = ap length c.as_slice.ensures ∙ (pair_tested c.requires.set c.args.pair.now.f c.args.pair.now.g_inverse c.args.pair.now.h c.args.pair.now.secret.items c.args.pair.now.tested).f_len

pub triple_product-requires-clause-small : goal.triple_product-requires-clause-small
triple_product-requires-clause-small g c = f_small c.requires.set c.args.pair.now.f c.args.pair.now.g_inverse c.args.pair.now.h c.args.pair.now.secret.items c.args.pair.now.tested c.as_slice.result.now c.as_slice.ensures

pub mul_3-requires-clause-b_len : goal.mul_3-requires-clause-b_len
mul_3-requires-clause-b_len g c = ap length c.as_slice-2.ensures ∙ (pair_tested c.requires.set c.args.pair.now.f c.args.pair.now.g_inverse c.args.pair.now.h c.args.pair.now.secret.items c.args.pair.now.tested).inverse_len

pub mul_3-requires-clause-a_centred : goal.mul_3-requires-clause-a_centred
mul_3-requires-clause-a_centred g c = All-same (IsCentred (pos 3)) c.modulo_three.new.into _ c.modulo_three.ensures (all_centred 3 c.triple_product.new.into refl)

pub mul_3-requires-clause-b_centred : goal.mul_3-requires-clause-b_centred
mul_3-requires-clause-b_centred g c = g_centred c.requires.set c.args.pair.now.f c.args.pair.now.g_inverse c.args.pair.now.h c.args.pair.now.secret.items c.args.pair.now.tested c.as_slice-2.result.now c.as_slice-2.ensures

pub returns-clause-small : goal.returns-clause-small
returns-clause-small g c = r_small _ _ _ c.mul_3.new.out c.keep_short.new.r c.mul_3.ensures.centred c.keep_short.ensures

pub returns-clause-found : goal.returns-clause-found
returns-clause-found g c =
    r_by c.requires.set c.args.pair.now.f c.args.pair.now.g_inverse c.args.pair.now.h c.args.pair.now.secret.items c.args.core.now c.triple_product.new.into c.modulo_three.new.into c.mul_3.new.out c.as_slice.result.now c.as_slice-2.result.now c.keep_short.new.r
    c.as_slice.ensures c.as_slice-2.ensures c.triple_product.ensures c.modulo_three.ensures
    (product_3_by g.row.P c.modulo_three.new.into c.as_slice-2.result.now c.mul_3.new.out c.mul_3.ensures.centred c.mul_3.ensures.congruent) (omega arith) c.keep_short.ensures
