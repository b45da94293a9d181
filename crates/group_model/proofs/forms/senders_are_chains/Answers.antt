use Rattle.group_model.proofs.forms.senders_are_chains.Goals as goal
use Rattle.group_model.proofs.Unforked.{all_seen}
use Rattle.group_model.proofs.Senders.{number_once, answered_once, named_once}

pub returns-clause-older_in_past : goal.returns-clause-older_in_past
returns-clause-older_in_past c = λ rule inviter h m a v w u n i e. all_seen rule inviter h m v w u n i e

pub returns-clause-numbered_once : goal.returns-clause-numbered_once
returns-clause-numbered_once c = λ h a b u i j e d. number_once h u i j e d

pub returns-clause-answered_once : goal.returns-clause-answered_once
returns-clause-answered_once c = λ rule inviter h a b i g v u p q e n k.
    answered_once rule inviter h (record { history = g; valid = v; unforked = u }) p q e i n k

pub returns-clause-named_once : goal.returns-clause-named_once
returns-clause-named_once c = λ rule inviter h g v u. named_once rule inviter h (record { history = g; valid = v; unforked = u })
