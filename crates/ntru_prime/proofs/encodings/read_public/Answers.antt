use Rattle.std.proofs.Common.{arith}
use Rattle.ntru_prime.proofs.Loops.{on_some, is_there, is_absent}
use Rattle.ntru_prime.proofs.DigitReads.{public_by, public_none_by}
use Rattle.ntru_prime.proofs.encodings.read_public.Goals as goal

pub returns-then-is_none : goal.returns-then-is_none
returns-then-is_none g c =
    public_none_by c.requires.set _ c.modulus-q.result c.args.bytes.now c.blank_digits-digits.ensures c.modulus-q.ensures
    (λ spelled. is_absent c.decode_mixed.result c.is_none.result c.is_none.ensures c.if-is_none.true (c.decode_mixed.ensures.spelled.1 spelled))

pub returns : goal.returns
returns g c =
    let there = is_there c.decode_mixed.result c.is_none.result c.is_none.ensures c.if-is_none.false in
    public_by c.requires.set c.modulus-q.result c.args.bytes.now c.decode_mixed.new.into c.coefficients_of.new.into c.modulus-q.ensures (omega arith)
    (on_some c.decode_mixed.result there c.decode_mixed.ensures.value) c.coefficients_of.ensures
