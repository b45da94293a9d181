use Rattle.std.proofs.Common.{arith}
use Rattle.two_party.proofs.NextParts.{written-public}
use Rattle.two_party.proofs.pairing.Pairing.send.Goals as goal

pub invariant_of-self-2 : goal.invariant_of-self-2
invariant_of-self-2 g c =
    (written-public g.K.Kem c.public.new.into _ _ c.draw.inside.other (omega arith) c.public.ensures, omega arith)
