use Rattle.ntru_model.proofs.Laws.{known_decapsulates}
use Rattle.ntru_model.proofs.decapsulates.Goals as goal

pub returns : goal.returns
returns c = known_decapsulates
