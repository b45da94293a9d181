use Rattle.group_model.proofs.laws.parts_open.Goals as goal
use Rattle.group_model.proofs.Pairs.{opens_for_a, opens_for_b}
use Rattle.group_model.proofs.Opening.{opens_exactly}

pub returns-clause-to_second : goal.returns-clause-to_second
returns-clause-to_second c = λ K a b ea eb s qa qb j. opens_for_b K s j

pub returns-clause-to_first : goal.returns-clause-to_first
returns-clause-to_first c = λ K a b ea eb s qa qb j. opens_for_a K s j

pub returns-clause-exactly : goal.returns-clause-exactly
returns-clause-exactly c = λ K card es part content. opens_exactly K card es part content
