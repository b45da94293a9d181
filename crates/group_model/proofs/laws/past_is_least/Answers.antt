use Rattle.group_model.specs.Sets.{In}
use Rattle.group_model.proofs.laws.past_is_least.Goals as goal
use Rattle.group_model.proofs.Pasts.{past-within, past-direct, past-closed, past-least, past-trans, past-apart, deps-stand, heads-lead_back}

pub returns-clause-within : goal.returns-clause-within
returns-clause-within c = λ h m a i. past-within h m.predecessors i

pub returns-clause-direct : goal.returns-clause-direct
returns-clause-direct c = λ h m a i k. past-direct h m.predecessors i k

pub returns-clause-closed : goal.returns-clause-closed
returns-clause-closed c = λ h m a b g i j d. past-closed h g m.predecessors i j d

pub returns-clause-least : goal.returns-clause-least
returns-clause-least c = λ h m a q f g i. past-least h m.predecessors (λ z. In z q) f g i

pub returns-clause-transitive : goal.returns-clause-transitive
returns-clause-transitive c = λ h m a b g i j. past-trans h g m.predecessors i j

pub returns-clause-of_the_message_alone : goal.returns-clause-of_the_message_alone
returns-clause-of_the_message_alone c = λ h k m a g f same i j.
    past-apart h k g f (record { same = same }) m.predecessors (deps-stand k f i) j

pub returns-clause-heads_lead_back : goal.returns-clause-heads_lead_back
returns-clause-heads_lead_back c = λ h m a g k i. heads-lead_back h g m.predecessors k i
