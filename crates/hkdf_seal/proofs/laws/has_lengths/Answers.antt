use Rattle.hkdf_seal.proofs.Opening.{length-sealed, length-tag_of, length-sealed_with_tag, length-kdf, length-expand}
use Rattle.hkdf_seal.proofs.laws.has_lengths.Goals as goal

pub returns-clause-text : goal.returns-clause-text
returns-clause-text c = λ key text. length-sealed key text

pub returns-clause-tag : goal.returns-clause-tag
returns-clause-tag c = λ key body. length-tag_of key body

pub returns-clause-with_tag : goal.returns-clause-with_tag
returns-clause-with_tag c = λ key text. length-sealed_with_tag key text

pub returns-clause-key : goal.returns-clause-key
returns-clause-key c = λ key label id. length-kdf key label id

pub returns-clause-output : goal.returns-clause-output
returns-clause-output c = λ prk info len. length-expand prk info len
