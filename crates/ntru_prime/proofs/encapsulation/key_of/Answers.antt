use Rattle.std.proofs.Common.{◌≡◌, ◌∙◌, ap, length, take, arith}
use Rattle.std.proofs.lemmas.List.{length-take}
use Rattle.ntru_prime.proofs.SetFacts.{cipher_few}
use Rattle.ntru_prime.proofs.PairFacts.{pair_tested, h_centred, key_there, key_refused}
use Rattle.ntru_prime.proofs.encapsulation.key_of.Goals as goal

pub slice_bounds-room-end : goal.slice_bounds-room-end
slice_bounds-room-end g c = let few = cipher_few c.requires.set (length c.args.cipher.now) c.requires.len in omega (arith, few, c.blank_cipher-room.ensures)

pub slice_bounds-again-end : goal.slice_bounds-again-end
slice_bounds-again-end g c =
    let few = cipher_few c.requires.set (length c.args.cipher.now) c.requires.len in
    omega (arith, few, c.blank_cipher-room.ensures, length-take (length c.args.cipher.now) c.blank_cipher-room.result)

pub write_cipher-requires-clause-h_len : goal.write_cipher-requires-clause-h_len
write_cipher-requires-clause-h_len g c = ap length c.as_slice.ensures ∙ (pair_tested c.requires.set c.args.pair.now.f c.args.pair.now.g_inverse c.args.pair.now.h c.args.pair.now.secret.items c.args.pair.now.tested).h_len

pub write_cipher-requires-clause-h_centred : goal.write_cipher-requires-clause-h_centred
write_cipher-requires-clause-h_centred g c = h_centred c.requires.set c.args.pair.now.f c.args.pair.now.g_inverse c.args.pair.now.h c.args.pair.now.secret.items c.args.pair.now.tested c.as_slice.result.now c.as_slice.ensures

pub write_cipher-requires-clause-room : goal.write_cipher-requires-clause-room
write_cipher-requires-clause-room g c =
    let few = cipher_few c.requires.set (length c.args.cipher.now) c.requires.len in
    let n = length-take (length c.args.cipher.now) c.blank_cipher-room.result in
    let same : length (take (length c.args.cipher.now) c.blank_cipher-room.result) ≡ length c.args.cipher.now = omega (arith, few, c.blank_cipher-room.ensures, n) in
    same ∙ c.requires.len

pub returns-then-eq : goal.returns-then-eq
returns-then-eq g c =
    key_there c.requires.set c.args.pair.now.f c.args.pair.now.g_inverse c.args.pair.now.h c.args.pair.now.secret.items c.args.pair.now.tested c.args.r.now c.args.cipher.now c.hash_of_small-digest.result c.hash_both-confirm.result c.cache_of.result.now c.write_cipher.new.into c.hash_both.result c.as_slice.result.now c.eq.result
    c.as_slice.ensures c.hash_of_small-digest.ensures c.cache_of.ensures c.hash_both-confirm.ensures c.write_cipher.ensures c.eq.ensures c.if-eq.true c.hash_both.ensures

pub returns-else-eq : goal.returns-else-eq
returns-else-eq g c =
    key_refused c.requires.set c.args.pair.now.f c.args.pair.now.g_inverse c.args.pair.now.h c.args.pair.now.secret.items c.args.pair.now.tested c.args.r.now c.args.cipher.now c.hash_of_small-digest.result c.hash_both-confirm.result c.cache_of.result.now c.write_cipher.new.into c.hash.result c.rho_of.result.now c.hash_both-else-eq.result c.as_slice.result.now c.eq.result
    c.as_slice.ensures c.hash_of_small-digest.ensures c.cache_of.ensures c.hash_both-confirm.ensures c.write_cipher.ensures c.eq.ensures c.if-eq.false c.rho_of.ensures c.hash.ensures c.hash_both-else-eq.ensures
