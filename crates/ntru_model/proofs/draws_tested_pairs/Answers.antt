use Rattle.ntru_model.proofs.Laws.{known_draws}
use Rattle.ntru_model.proofs.draws_tested_pairs.Goals as goal

pub returns : goal.returns
returns c = known_draws
