use Rattle.std.proofs.Common.{◌≡◌, Some, subst}
use Rattle.member_identity.specs.Identity.{Origin, secret_from}
use Rattle.member_identity.proofs.Spelled.{secret_is}
use Rattle.member_identity.proofs.identity.Identity.into_pair.Goals as goal

pub returns : goal.returns
returns g c =
    let secret = g.K.Kem.secret_key c.self.inside.pair in
    subst (λ (o : Origin). secret_from g.K.Kem o.random ≡ Some secret) c.self.view_is
    (secret_is g.K.Kem c.self.inside.random secret c.self.invariant)
