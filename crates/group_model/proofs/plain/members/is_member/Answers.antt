use Rattle.group_model.proofs.RemoveWins.{remove_wins-IsMember, IsMember-remove_wins}
use Rattle.group_model.proofs.plain.members.is_member.Goals as goal

pub returns-then-is_removed : goal.returns-then-is_removed
returns-then-is_removed c =
    (λ h. cc, λ i. absurd ((remove_wins-IsMember _ _ i).stays (c.is_removed.ensures.0 c.if-is_removed.true)))

pub returns : goal.returns
returns c = (
  λ h. IsMember-remove_wins _ _ (record {
    named = c.is_named-named.ensures.0 h;
    stays = λ r. let t = c.is_removed.ensures.1 r in let f = c.if-is_removed.false in cc;
  }),
  λ i. c.is_named-named.ensures.1 (remove_wins-IsMember _ _ i).named,
)
