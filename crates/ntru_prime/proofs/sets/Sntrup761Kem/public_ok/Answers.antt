use Rattle.std.proofs.Common.{◌∙◌, ap, is_some}
use Rattle.ntru_prime.specs.Keys.{is_public}
use Rattle.ntru_prime.proofs.SetFacts.{is_some-map}
use Rattle.ntru_prime.proofs.sets.Sntrup761Kem.public_ok.Goals as goal

pub returns : goal.returns
unfolding is_public
returns c = c.is_some.ensures ∙ is_some-map (λ _. c.read_public.new.h) c.read_public.result ∙ ap is_some c.read_public.ensures
