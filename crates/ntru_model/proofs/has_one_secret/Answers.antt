use Rattle.ntru_model.proofs.Laws.{known_secret, known_parts}
use Rattle.ntru_model.proofs.has_one_secret.Goals as goal

pub returns-clause-whole : goal.returns-clause-whole
returns-clause-whole c = known_secret

pub returns-clause-public : goal.returns-clause-public
returns-clause-public c = λ s secret pair one read. (known_parts s secret pair one read).h

pub returns-clause-rho : goal.returns-clause-rho
returns-clause-rho c = λ s secret pair one read. (known_parts s secret pair one read).rho

pub returns-clause-cache : goal.returns-clause-cache
returns-clause-cache c = λ s secret pair one read. (known_parts s secret pair one read).cache
