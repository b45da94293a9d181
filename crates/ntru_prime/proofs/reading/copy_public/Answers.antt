use Rattle.std.proofs.Common.{ap, ◌∙◌, length, drop, ◌*◌, ◌+◌, ◌/◌, arith}
use Rattle.std.proofs.lemmas.List.{length-take, length-drop}
use Rattle.ntru_prime.proofs.PairFacts.{pair_len}
use Rattle.ntru_prime.proofs.reading.copy_public.Goals as goal

pub part-requires : goal.part-requires
part-requires g c = let len = ap length c.as_slice.ensures.value ∙ pair_len c.requires.set c.args.pair.now.f c.args.pair.now.g_inverse c.args.pair.now.h c.args.pair.now.secret.items c.args.pair.now.tested in omega (arith, len, c.requires.room)

pub copy_from_slice-requires : goal.copy_from_slice-requires
copy_from_slice-requires g c =
    let len = ap length c.as_slice.ensures.value ∙ pair_len c.requires.set c.args.pair.now.f c.args.pair.now.g_inverse c.args.pair.now.h c.args.pair.now.secret.items c.args.pair.now.tested in
    let at = length-drop (2 * (g.row.P / 4 + 1)) c.as_slice.result.now in
    let taken = length-take (length c.args.into.now) (drop (2 * (g.row.P / 4 + 1)) c.as_slice.result.now) in
    let is = ap length c.part.ensures in
    omega (arith, len, c.requires.room, at, taken, is)
