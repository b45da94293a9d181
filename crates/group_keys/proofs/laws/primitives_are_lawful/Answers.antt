use Rattle.group_keys.specs.Primitives.{primitives_of}
use Rattle.group_parts.proofs.Tested.{public-tested, encapsulates}
use Rattle.group_keys.proofs.laws.primitives_are_lawful.Goals as goal

pub returns-clause-sealing : goal.returns-clause-sealing
returns-clause-sealing g c = (primitives_of g.K.Kem).unseal_seal

pub returns-clause-pairs : goal.returns-clause-pairs
returns-clause-pairs g c = (primitives_of g.K.Kem).made_pair

pub returns-clause-keys : goal.returns-clause-keys
returns-clause-keys g c = (primitives_of g.K.Kem).decapsulate_encapsulate

pub returns-clause-contents : goal.returns-clause-contents
returns-clause-contents g c = (primitives_of g.K.Kem).read_write

pub returns-clause-public_keys : goal.returns-clause-public_keys
unfolding primitives_of
returns-clause-public_keys g c = λ secret public h. public-tested g.K.Kem secret public h

pub returns-clause-encapsulates : goal.returns-clause-encapsulates
unfolding primitives_of
returns-clause-encapsulates g c = λ public seed h. encapsulates g.K.Kem public seed h
