use Rattle.group_model.proofs.RemoveWins.{remove_wins-IsMember, IsMember-remove_wins}
use Rattle.group_model.proofs.plain.members.is_member_with.Goals as goal

pub returns-then-is_removed_with : goal.returns-then-is_removed_with
returns-then-is_removed_with c =
    (λ h. cc, λ i. absurd ((remove_wins-IsMember _ _ i).stays (c.is_removed_with.ensures.0 c.if-is_removed_with.true)))

pub returns : goal.returns
returns c = (
  λ h. IsMember-remove_wins _ _ (record {
    named = c.is_named_with-named.ensures.0 h;
    stays = λ r. let t = c.is_removed_with.ensures.1 r in let f = c.if-is_removed_with.false in cc;
  }),
  λ i. c.is_named_with-named.ensures.1 (remove_wins-IsMember _ _ i).named,
)
