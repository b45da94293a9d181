use Rattle.group_model.proofs.Rows.{older-no_wait, waits-where}
use Rattle.group_model.proofs.plain.validity.is_unanswered.Goals as goal

pub returns-then-has_answered : goal.returns-then-has_answered
returns-then-has_answered c = λ g i. (
  λ h. cc,
  λ u. absurd (let a = c.has_answered.ensures.0 c.if-has_answered.true in
      u.unmet a.by a.there_is a.own a.answers),
)

pub returns-then-older : goal.returns-then-older
returns-then-older c = λ g i. (
  λ h. cc,
  λ u. absurd (older-no_wait _ g _ _ i
      (c.in_ok-older.ensures.0 c.if-older.true) u),
)

pub returns : goal.returns
returns c = λ g i. (
  λ h. waits-where _ _ _ i (c.is_of_others.ensures.0 h)
      (λ n. let t = c.has_answered.ensures.1 n in let f = c.if-has_answered.false in cc)
      (λ n. let t = c.in_ok-older.ensures.1 n in let f = c.if-older.false in cc),
  λ u. c.is_of_others.ensures.1 (u.operation, u.others),
)
