use Rattle.group_model.proofs.laws.authentic_texts.Goals as goal
use Rattle.group_model.proofs.Theorem.{text_agreement}
use Rattle.group_model.proofs.TextsAlone.{texts_alone}

pub returns-clause-as_sent : goal.returns-clause-as_sent
returns-clause-as_sent c = text_agreement

pub returns-clause-of_texts_alone : goal.returns-clause-of_texts_alone
returns-clause-of_texts_alone c = texts_alone
