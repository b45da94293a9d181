use Rattle.group_model.proofs.Rows.{waits-and}
use Rattle.group_model.proofs.plain.validity.waits_as_another.Goals as goal

pub returns-then-same : goal.returns-then-same
returns-then-same c = λ g i. (λ h. cc, λ k. absurd (k.1 (c.same.ensures.0 c.if-same.true)))

pub returns : goal.returns
returns c = λ g i. waits-and _ _ (c.is_unanswered.result) (c.is_unanswered.ensures g i)
    (λ e. let t = c.same.ensures.1 e in let f = c.if-same.false in cc)
