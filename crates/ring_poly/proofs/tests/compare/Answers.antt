use Rattle.ring_poly.proofs.Centred.{within_from_centred}
use Rattle.ring_poly.proofs.tests.compare.Goals as goal

pub plain_product-requires-clause-a_within : goal.plain_product-requires-clause-a_within
plain_product-requires-clause-a_within g c = within_from_centred _ c.args.a.now c.requires.modulus c.requires.a_centred

pub plain_product-requires-clause-b_within : goal.plain_product-requires-clause-b_within
plain_product-requires-clause-b_within g c = within_from_centred _ c.args.b.now c.requires.modulus c.requires.b_centred
