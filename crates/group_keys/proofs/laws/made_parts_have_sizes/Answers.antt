use Rattle.group_keys.specs.Primitives.{primitives_of}
use Rattle.group_keys.proofs.Made.{made-sized}
use Rattle.group_keys.proofs.laws.made_parts_have_sizes.Goals as goal

pub returns : goal.returns
unfolding primitives_of
returns g c = λ to content seed part few h. made-sized g.K.Kem to content seed part few h
