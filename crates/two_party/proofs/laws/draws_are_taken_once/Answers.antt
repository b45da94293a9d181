use Rattle.two_party.proofs.TakenOnce.{listed, unlisted, none-left, others-kept}
use Rattle.two_party.proofs.laws.draws_are_taken_once.Goals as goal

pub returns-clause-listed : goal.returns-clause-listed
returns-clause-listed c = λ K random ids id h. listed K random ids id h

pub returns-clause-others : goal.returns-clause-others
returns-clause-others c = λ K random ids id h. unlisted K random ids id h

pub returns-clause-taken : goal.returns-clause-taken
returns-clause-taken c = λ rows id. none-left rows id

pub returns-clause-kept : goal.returns-clause-kept
returns-clause-kept c = λ rows id other h. others-kept rows id other h
