use Rattle.std.proofs.Common.{◌-◌, length, arith}
use Rattle.ntru_prime.proofs.Encapsulates.{read_some, read_none}
use Rattle.ntru_prime.proofs.PairFacts.{core_centred, decap_none, decap_some}
use Rattle.ntru_prime.proofs.encapsulation.decap.Goals as goal

pub returns-then-is_none : goal.returns-then-is_none
returns-then-is_none g c =
    decap_none c.requires.set c.args.pair.now.f c.args.pair.now.g_inverse c.args.pair.now.h c.args.pair.now.secret.items c.args.pair.now.tested (length c.args.cipher.now - 32) c.args.cipher.now (omega arith)
    (read_none c.read_rounded.result c.read_rounded.new.c c.is_none.result _ c.is_none.ensures c.if-is_none.true c.read_rounded.ensures)

pub find_r-requires : goal.find_r-requires
find_r-requires g c = (omega arith, (c.requires.set, (omega arith, (core_centred c.requires.set _ c.read_rounded.new.c (read_some c.read_rounded.result c.read_rounded.new.c c.is_none.result _ c.is_none.ensures c.if-is_none.false c.read_rounded.ensures), omega arith))))

pub returns : goal.returns
returns g c =
    decap_some c.requires.set c.args.pair.now.f c.args.pair.now.g_inverse c.args.pair.now.h c.args.pair.now.secret.items c.args.pair.now.tested (length c.args.cipher.now - 32) c.args.cipher.now c.read_rounded.new.c c.find_r.new.r c.key_of.result (omega arith)
    (read_some c.read_rounded.result c.read_rounded.new.c c.is_none.result _ c.is_none.ensures c.if-is_none.false c.read_rounded.ensures) c.find_r.ensures.found c.key_of.ensures
