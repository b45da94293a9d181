-- What an answer to the whole history sees.
use Rattle.std.proofs.Common.{◌≡◌, ℕ, ◌∷◌, List, sym, subst}
use Rattle.group_model.specs.Sets.{Id, In, Within}
use Rattle.group_model.specs.Messages.{Message, History, past}
use Rattle.group_model.specs.Membership.{InView, IsMembershipRule}
use Rattle.group_model.proofs.Pasts.{heads-lead_back, past-all}
use Rattle.forwarding.specs.Answers.{IsAnswerOf}

module _ (h : History) (m : Message) {place : ℕ} (k : IsAnswerOf h place m) where
  -- its past is the whole history
  pub past-whole : past h m.predecessors ≡ h
  past-whole = past-all h k.history.2 m.predecessors (λ a i. heads-lead_back h k.history.2 m.predecessors k.heads i)

  inside : Within h (past h m.predecessors)
  inside = record { each = λ {a} i. subst (λ z. In a z) (sym past-whole) i }

  module _ (rule : History → List Id) (is_rule : IsMembershipRule rule) (y : Id) where
    -- it is seen by the members
    pub seen-by_member : In y (rule h) → InView rule h m y
    seen-by_member i =
        subst (λ z. In y (rule (m ∷ z))) (sym past-whole)
        ((is_rule.others_stay h m y k.history inside k.moves_nobody).1 i)

    -- and by nobody else
    pub member-sees : InView rule h m y → In y (rule h)
    member-sees v =
        (is_rule.others_stay h m y k.history inside k.moves_nobody).0
        (subst (λ z. In y (rule (m ∷ z))) past-whole v)
