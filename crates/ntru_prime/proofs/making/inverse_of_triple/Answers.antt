use Rattle.std.proofs.Common.{ap, ◌∙◌, arith, pos}
use Rattle.ring_laws.specs.Laws.{multiple_of}
use Rattle.ntru_model.proofs.Inverses.{inverse_of}
use Rattle.ntru_prime.proofs.Sums.{triple_centred}
use Rattle.ntru_prime.proofs.Solving.{inverse_q}
use Rattle.ntru_prime.proofs.making.inverse_of_triple.Goals as goal

pub inverse-requires-clause-centred : goal.inverse-requires-clause-centred
inverse-requires-clause-centred g c = triple_centred c.requires.set c.args.f.now c.triple.new.into c.triple.ensures c.requires.small

pub returns-in-Inverse : goal.returns-in-Inverse
returns-in-Inverse g c =
    inverse_q c.requires.set (multiple_of (pos 3) c.args.f.now) c.triple.new.into c.in_ok-found.field-0 c.triple.ensures (omega arith) c.in_ok-found.ensures.solves c.in_ok-found.ensures.len c.in_ok-found.ensures.centred
    ∙ ap inverse_of c.in-Inverse.is

pub returns : goal.returns
returns g c =
    inverse_q c.requires.set (multiple_of (pos 3) c.args.f.now) c.triple.new.into c.in_ok-found.field-0 c.triple.ensures (omega arith) c.in_ok-found.ensures.solves c.in_ok-found.ensures.len c.in_ok-found.ensures.centred
    ∙ ap inverse_of c.in-Kernel.is
