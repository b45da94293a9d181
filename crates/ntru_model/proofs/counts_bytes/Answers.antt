use Rattle.ntru_model.proofs.Counts.{large_public, large_core, large_secret, large_cipher, little_public, little_core, little_secret, little_cipher}
use Rattle.ntru_model.proofs.counts_bytes.Goals as goal

pub returns-clause-public : goal.returns-clause-public
returns-clause-public c = (large_public, little_public)

pub returns-clause-core : goal.returns-clause-core
returns-clause-core c = (large_core, little_core)

pub returns-clause-secret : goal.returns-clause-secret
returns-clause-secret c = (large_secret, little_secret)

pub returns-clause-cipher : goal.returns-clause-cipher
returns-clause-cipher c = (large_cipher, little_cipher)
