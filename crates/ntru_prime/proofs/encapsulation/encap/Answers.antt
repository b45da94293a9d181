use Rattle.std.proofs.Common.{◌++◌, ◌∙◌, ap}
use Rattle.ntru_model.specs.Pairs.{hash}
use Rattle.ntru_prime.proofs.Sums.{short_small}
use Rattle.ntru_prime.proofs.Encapsulates.{read_some, read_none, public_is_read, public_centred, encapsulated_by}
use Rattle.ntru_prime.proofs.encapsulation.encap.Goals as goal

pub unreachable-requires : goal.unreachable-requires
unreachable-requires g c = public_is_read _ c.args.public.now c.requires.public_ok (read_none c.read_public.result c.read_public.new.h c.is_none.result _ c.is_none.ensures c.if-is_none.true c.read_public.ensures)

pub hash_of_small-digest-requires-clause-small : goal.hash_of_small-digest-requires-clause-small
hash_of_small-digest-requires-clause-small g c = short_small c.requires.set _ c.draw_short.new.into c.draw_short.ensures.drawn

pub write_cipher-requires-clause-h_centred : goal.write_cipher-requires-clause-h_centred
write_cipher-requires-clause-h_centred g c =
    public_centred c.requires.set c.args.public.now c.read_public.new.h (read_some c.read_public.result c.read_public.new.h c.is_none.result _ c.is_none.ensures c.if-is_none.false c.read_public.ensures)

pub write_cipher-requires-clause-r_small : goal.write_cipher-requires-clause-r_small
write_cipher-requires-clause-r_small g c = short_small c.requires.set _ c.draw_short.new.into c.draw_short.ensures.drawn

pub returns-clause-given : goal.returns-clause-given
returns-clause-given g c =
    let read = read_some c.read_public.result c.read_public.new.h c.is_none.result _ c.is_none.ensures c.if-is_none.false c.read_public.ensures in
    encapsulated_by c.requires.set c.args.public.now (g.V.Words.upcoming c.args.words.now) c.read_public.new.h c.draw_short.new.into c.hash_of_small-digest.result c.hash_both-confirm.result c.write_cipher.new.into c.hash_both.result
    read c.draw_short.ensures.drawn c.hash_of_small-digest.ensures (c.hash_both-confirm.ensures ∙ ap (λ x. hash 2 (c.hash_of_small-digest.result ++ x)) c.hash.ensures) c.write_cipher.ensures c.hash_both.ensures
