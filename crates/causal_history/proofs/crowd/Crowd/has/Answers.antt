use Rattle.std.proofs.Common.{refl}
use Rattle.std.proofs.lemmas.Nat.Bits.{shr_and_one}
use Rattle.causal_history.specs.Bits.{bit}
use Rattle.causal_history.proofs.crowd.Crowd.has.Goals as goal

pub returns : goal.returns
unfolding bit
returns c = rw shr_and_one refl
