use Rattle.group_model.proofs.forms.knowledge_by_entries.Goals as goal
use Rattle.group_model.proofs.Knowing.{known-none, known-own, known-apart, answer-none, answer-own, answer-apart, chain-none, chain-own, chain-apart}

pub returns-clause-ratchet_of_sender : goal.returns-clause-ratchet_of_sender
returns-clause-ratchet_of_sender c = known-own

pub returns-clause-ratchet_of_others : goal.returns-clause-ratchet_of_others
returns-clause-ratchet_of_others c = known-apart

pub returns-clause-input_of_entry : goal.returns-clause-input_of_entry
returns-clause-input_of_entry c = answer-own

pub returns-clause-input_of_others : goal.returns-clause-input_of_others
returns-clause-input_of_others c = answer-apart

pub returns-clause-chain_of_sender : goal.returns-clause-chain_of_sender
returns-clause-chain_of_sender c = chain-own

pub returns-clause-chain_of_others : goal.returns-clause-chain_of_others
returns-clause-chain_of_others c = chain-apart

pub returns-clause-start : goal.returns-clause-start
returns-clause-start c = λ K card self i s f. (known-none K card self s, answer-none K card self i s f, chain-none K card self s)
