use Rattle.std.proofs.Common.{refl}
use Rattle.causal_cast.proofs.OverItself.{addressee-in, addressee-out}
use Rattle.causal_cast.proofs.laws.addressees_are_of_the_past.Goals as goal

pub returns : goal.returns
returns c = λ rule h m g y. (addressee-out rule h m g m.kind refl y, addressee-in rule h m g m.kind y)
