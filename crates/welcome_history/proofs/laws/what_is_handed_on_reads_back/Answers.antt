use Rattle.welcome_history.proofs.ReadBack.{read_back}
use Rattle.welcome_history.proofs.laws.what_is_handed_on_reads_back.Goals as goal

pub returns : goal.returns
returns c = λ rows welcome kept once of. read_back rows kept once c.named_ids_are_few.ensures.distinct welcome of
