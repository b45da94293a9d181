use Rattle.ntru_prime.proofs.Sums.{six_form}
use Rattle.ntru_prime.proofs.Encapsulates.{cipher_by}
use Rattle.ntru_prime.proofs.encapsulation.write_cipher.Goals as goal

pub write_rounded-requires-clause-centred : goal.write_rounded-requires-clause-centred
write_rounded-requires-clause-centred g c = c.round_to_three.ensures.centred _ (six_form c.requires.set)

pub returns : goal.returns
returns g c =
    cipher_by c.requires.set c.args.h.now c.args.r.now c.mul_q.new.out c.round_to_three.new.a c.write_rounded.new.into c.copy_from_slice.new.self c.args.confirm.now
    c.mul_q.ensures.centred c.mul_q.ensures.congruent c.round_to_three.ensures.rounded c.write_rounded.ensures c.copy_from_slice.ensures.after
