use Rattle.group_model.proofs.ListFacts.{In-from_Contains, Contains-from_In}
use Rattle.group_model.proofs.plain.messages.has.Goals as goal

pub returns : goal.returns
returns c = (λ h. In-from_Contains _ _ (c.contains.ensures.0 h), λ h. c.contains.ensures.1 (Contains-from_In h))
