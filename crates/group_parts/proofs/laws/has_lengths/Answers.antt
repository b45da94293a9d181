use Rattle.group_parts.proofs.Lengths.{large, most, small, length-pair, length-encapsulation, length-sealed_content, length-next_ratchet, length-update_secret}
use Rattle.group_parts.proofs.Spelled.{length-spelled}
use Rattle.group_parts.proofs.Written.{length-written}
use Rattle.group_parts.proofs.laws.has_lengths.Goals as goal

pub returns-clause-large : goal.returns-clause-large
returns-clause-large g c = λ is. large g.K.Kem is

pub returns-clause-most : goal.returns-clause-most
returns-clause-most g c = most g.K.Kem

pub returns-clause-small : goal.returns-clause-small
returns-clause-small g c = λ is. small g.K.Kem is

pub returns-clause-content : goal.returns-clause-content
returns-clause-content g c = λ content bytes e. length-written g.K.Kem content bytes e

pub returns-clause-sealed : goal.returns-clause-sealed
returns-clause-sealed g c = λ content bytes key e. length-sealed_content g.K.Kem content bytes key e

pub returns-clause-part : goal.returns-clause-part
returns-clause-part g c = λ part h. length-spelled g.K.Kem part h

pub returns-clause-pair : goal.returns-clause-pair
returns-clause-pair g c = λ secret public h. length-pair g.K.Kem secret public h

pub returns-clause-cipher : goal.returns-clause-cipher
returns-clause-cipher g c = λ public seed e h. length-encapsulation g.K.Kem public seed e h

pub returns-clause-ratchet : goal.returns-clause-ratchet
returns-clause-ratchet g c = λ ratchet input. length-next_ratchet ratchet input

pub returns-clause-secret : goal.returns-clause-secret
returns-clause-secret g c = λ ratchet input. length-update_secret ratchet input
