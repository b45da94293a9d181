use Rattle.std.proofs.Common.{ap, ap₂, ◌∙◌, length, drop, arith}
use Rattle.ntru_prime.proofs.PairFacts.{pair_len, pair_parts}
use Rattle.ntru_prime.proofs.encapsulation.cache_of.Goals as goal

pub tail-requires : goal.tail-requires
tail-requires g c = let len = ap length c.as_slice.ensures.value ∙ pair_len c.requires c.args.pair.now.f c.args.pair.now.g_inverse c.args.pair.now.h c.args.pair.now.secret.items c.args.pair.now.tested in omega (arith, len, c.public_len.ensures.exact)

pub returns : goal.returns
returns g c =
    c.tail.ensures ∙ ap₂ (λ n xs. drop n xs) (omega (arith, c.public_len.ensures.exact)) c.as_slice.ensures.value ∙ (pair_parts c.requires c.args.pair.now.f c.args.pair.now.g_inverse c.args.pair.now.h c.args.pair.now.secret.items c.args.pair.now.tested).cache
