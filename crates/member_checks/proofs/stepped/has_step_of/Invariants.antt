use Rattle.causal_history.specs.Rows.{history_of, senders_of}
use Rattle.group_model.specs.Marks.{IsPlace}
use Rattle.group_model.specs.Sets.{Id}
use Rattle.member_checks.proofs.RatchetSteps.{NoStepBelow}
use Rattle.member_checks.proofs.stepped.has_step_of.Given as goal

-- no message so far is the sender's and steps its ratchet
abbrev pub invariant-loop-index : goal.invariant-loop-index
invariant-loop-index l = (x : Id) → IsPlace (senders_of (history_of l.history)) l.number x
    → NoStepBelow (history_of l.history) x l.index
