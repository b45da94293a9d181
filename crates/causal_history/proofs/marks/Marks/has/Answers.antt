use Rattle.std.proofs.Common.{refl}
use Rattle.std.proofs.lemmas.Nat.Bits.{shr_and_one}
use Rattle.causal_history.specs.Bits.{mark}
use Rattle.causal_history.proofs.marks.Marks.has.Goals as goal

pub returns : goal.returns
unfolding mark
returns c = rw shr_and_one (rw c.self.view_is refl)
