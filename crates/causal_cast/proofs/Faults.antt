-- A fault by the rules as a verdict.
use Rattle.std.proofs.Common.{◌≡◌, ◌≢◌, inl, inr, List, [], ◌∷◌, refl, ap}
use Rattle.group_model.specs.Sets.{Id}
use Rattle.group_model.specs.Messages.{Message, History}
use Rattle.group_model.specs.Validity.{IsNamedSender, IsCurrentMember, MeetsKind}
use Rattle.member_view.specs.Causes.{Causes, IsFirst, GivesNone, unless, each}
use Rattle.member_view.specs.Rules.{ForksNone, IsOldestFork, IsInOrder, any_inviter, causes_over}
use Rattle.member_view.specs.declared.faults.RuleFault.{RuleFault}
use Rattle.causal_cast.specs.Verdicts.{verdict_on}
use Rattle.causal_cast.specs.declared.verdict.Verdict.{Verdict}
use Rattle.causal_cast.specs.declared.verdict.Verdict.TheVariants as answers

module _ (rule : History → List Id) (h p : History) (m : Message) (me : Id) (Suits : Type 0) where
  -- the verdicts on the rules, where the conditions of the kind are those and more
  abbrev pub asked : Causes Verdict
  asked =
      unless (IsNamedSender p m × (m.sender ≢ me)) answers.Stranger
      ∷ unless (IsCurrentMember rule p m) answers.NotMember
      ∷ each (ForksNone h m) answers.Forked (IsOldestFork h m)
      ∷ unless (IsInOrder p m) answers.BadOrder
      ∷ unless Suits answers.BadKind
      ∷ []

  -- the member that judges is a stranger to itself
  pub own-stranger : m.sender ≡ me → IsFirst asked answers.Stranger
  own-stranger e = inl ((λ k. k.1 e), refl)

  module _ (opens : Suits → MeetsKind rule (any_inviter m) p m.sender m.kind) where
    pub fault-verdict : (f : RuleFault) → m.sender ≢ me → IsFirst (causes_over rule h p m) f
        → IsFirst asked (verdict_on f)
    fault-verdict f other (inl a) = inl ((λ k. a.0 k.0), ap verdict_on a.1)
    fault-verdict f other (inr (named, inl a)) = inr ((named, other), inl (a.0, ap verdict_on a.1))
    fault-verdict f other (inr (named, inr (member, inl a))) =
        inr ((named, other), inr (member, inl (a.0, a.1, ap verdict_on a.2)))
    fault-verdict f other (inr (named, inr (member, inr (alone, inl a)))) =
        inr ((named, other), inr (member, inr (alone, inl (a.0, ap verdict_on a.1))))
    fault-verdict f other (inr (named, inr (member, inr (alone, inr (order, inl a))))) =
        inr ((named, other), inr (member, inr (alone, inr (order, inl ((λ s. a.0 (opens s)), ap verdict_on a.1)))))
    fault-verdict f other (inr (named, inr (member, inr (alone, inr (order, inr (kind, x)))))) = absurd x

  pub bad-kind : m.sender ≢ me → GivesNone (causes_over rule h p m) → (Suits → ⊥) → IsFirst asked answers.BadKind
  bad-kind other n unsuited =
      inr ((n.0, other), inr (n.1.0, inr (n.1.1.0, inr (n.1.1.1.0, inl (unsuited, refl)))))

  pub none-asked : m.sender ≢ me → GivesNone (causes_over rule h p m) → Suits → GivesNone asked
  none-asked other n suits = ((n.0, other), (n.1.0, (n.1.1.0, (n.1.1.1.0, (suits, tt)))))
