use Rattle.ntru_model.proofs.Undone.{length-encapsulated, length-decapsulated}
use Rattle.ntru_model.proofs.Laws.{known_secret_len, known_public_len}
use Rattle.ntru_model.proofs.has_lengths.Goals as goal

pub returns-clause-secret : goal.returns-clause-secret
returns-clause-secret c = known_secret_len

pub returns-clause-public : goal.returns-clause-public
returns-clause-public c = known_public_len

pub returns-clause-cipher : goal.returns-clause-cipher
returns-clause-cipher c = λ s public words e made. (length-encapsulated s public words e made).0

pub returns-clause-key : goal.returns-clause-key
returns-clause-key c = λ s public words e made. (length-encapsulated s public words e made).1

pub returns-clause-answer : goal.returns-clause-answer
returns-clause-answer c = length-decapsulated
