use Rattle.member_identity.proofs.Spelled.{has_key_size, is_known_set}
use Rattle.member_identity.proofs.laws.cards_have_room.Goals as goal

pub returns-clause-set : goal.returns-clause-set
returns-clause-set g c = is_known_set g.K.Kem.SET g.K.Kem.PUBLIC_LEN g.K.Kem.SECRET_LEN g.K.Kem.CIPHER_LEN g.K.Kem.has_set_lengths

pub returns-clause-size : goal.returns-clause-size
returns-clause-size g c = has_key_size g.K.Kem.SET g.K.Kem.PUBLIC_LEN g.K.Kem.SECRET_LEN g.K.Kem.CIPHER_LEN g.K.Kem.has_set_lengths
